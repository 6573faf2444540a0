use Rattle.std.proofs.Common.{◌≡◌, ◌++◌, drop, map}
use Rattle.std.specs.List.{filter}
use Rattle.yv_values.specs.Texts.{is_word}
use Rattle.yv_values.proofs.bits.words.Given as goal

abbrev pub invariant-loop-piece : goal.invariant-loop-piece
invariant-loop-piece l = map (λ w. w.now) l.words.items ++ filter is_word (map (λ w. w.now) (drop l.piece-index l.piece-items)) ≡ filter is_word (map (λ w. w.now) l.piece-items)
