use Rattle.std.proofs.Common.{map, take, string_bytes}
use Rattle.yv_note_faults.specs.Sentences.{AreSentences}
use Rattle.yv_note_faults.proofs.all_sentences.lines_on.Given as goal

abbrev pub invariant-loop-number : goal.invariant-loop-number
invariant-loop-number l = AreSentences l.document.name.now (take l.number (map (λ f. f.now) l.faults)) (string_bytes l.text)
