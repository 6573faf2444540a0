use Rattle.std.proofs.Common.{string_bytes}
use Rattle.yv_note_selection.specs.InnerLines.{HoldsLines}
use Rattle.yv_note_selection.proofs.lines.lines_on.Given as goal

abbrev pub invariant-loop-sentence : goal.invariant-loop-sentence
invariant-loop-sentence l = HoldsLines l.sentence-index (string_bytes l.text)
