use Rattle.std.proofs.Common.{map, take}
use Rattle.yv_base_streams.specs.Files.{file_of}
use Rattle.yv_note_refusals.specs.InnerLines.{HoldsLines}
use Rattle.yv_note_refusals.proofs.other_files.lines_on.Given as goal

abbrev pub invariant-loop-input : goal.invariant-loop-input
invariant-loop-input l = HoldsLines l.phase (map file_of (take l.input-index l.inputs)) l.lines
