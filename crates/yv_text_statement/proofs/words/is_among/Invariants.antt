use Rattle.std.proofs.Common.{◌≡◌, drop, map}
use Rattle.yv_text_statement.specs.Words.{is_among}
use Rattle.yv_text_statement.proofs.words.is_among.Given as goal

abbrev pub invariant-loop-word : goal.invariant-loop-word
invariant-loop-word l = is_among (map (λ w. w.now) (drop l.word-index l.words)) l.name ≡ is_among (map (λ w. w.now) l.words) l.name
