use Rattle.std.proofs.Common.{take}
use Rattle.json.specs.Print.{escape as json_escape}
use Rattle.yv_base_streams.specs.Stream.{has_failed, stream_failures, stream_inner}
use Rattle.yv_base_streams.specs.Pages.{Adds, output_of}
use Rattle.yv_json_lines.specs.InnerSteps.{spelled_name}
use Rattle.yv_json_lines.proofs.steps.put_name.Given as goal

abbrev pub invariant-loop-byte : goal.invariant-loop-byte
invariant-loop-byte g l =
    Adds (json_escape (spelled_name l.spelling (take l.byte-index l.name))) (output_of (g.W.Write.contents (stream_inner l.initial.writer)) (has_failed l.initial.writer) (stream_failures l.initial.writer) l.initial.page)
    (output_of (g.W.Write.contents (stream_inner l.writer)) (has_failed l.writer) (stream_failures l.writer) l.page)
