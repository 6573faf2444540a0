use Rattle.std.proofs.Common.{string_bytes}
use Rattle.yv_note_faults.specs.Sentences.{TellsRepeats}
use Rattle.yv_note_faults.proofs.repeats.lines_on.Given as goal

abbrev pub invariant-loop-member : goal.invariant-loop-member
invariant-loop-member l = TellsRepeats l.member-index l.document.name.now (string_bytes l.text)
