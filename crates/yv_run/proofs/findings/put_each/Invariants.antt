use Rattle.std.proofs.Common.{flat_map, map, take}
use Rattle.yv_base_streams.specs.Files.{file_of}
use Rattle.yv_base_streams.specs.Stream.{has_failed, stream_failures, stream_inner}
use Rattle.yv_base_streams.specs.Pages.{Adds, output_of}
use Rattle.yv_run.specs.FindingLines.{finding_text}
use Rattle.yv_run.specs.InnerFindings.{IsMark}
use Rattle.yv_run.proofs.findings.put_each.Given as goal

abbrev pub invariant-loop-finding : goal.invariant-loop-finding
invariant-loop-finding g l =
    IsMark (map file_of l.inputs) l.mark
    × Adds (flat_map (finding_text l.form (map file_of l.inputs)) (take l.finding-index l.findings))
    (output_of (g.W.Write.contents (stream_inner l.initial.writer)) (has_failed l.initial.writer) (stream_failures l.initial.writer) l.initial.page)
    (output_of (g.W.Write.contents (stream_inner l.writer)) (has_failed l.writer) (stream_failures l.writer) l.page)
