use Rattle.std.proofs.Common.{◌≡◌, drop, map}
use Rattle.std.specs.List.{concat}
use Rattle.std.specs.Str.{bytes_eq}
use Rattle.yv_lint.proofs.file_names.is_made_of.Given as goal

abbrev pub invariant-loop-piece : goal.invariant-loop-piece
invariant-loop-piece l = bytes_eq l.rest (concat (map (λ p. p.now) (drop l.piece-index l.pieces))) ≡ bytes_eq l.text (concat (map (λ p. p.now) l.pieces))
