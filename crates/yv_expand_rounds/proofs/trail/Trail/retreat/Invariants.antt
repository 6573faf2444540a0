use Rattle.std.proofs.Common.{◌≡◌, ℕ, length, Some}
use Rattle.std.specs.List.{slice_get}
use Rattle.yv_expand_rounds.specs.declared.end.End.{End}
use Rattle.yv_expand_rounds.proofs.trail.Trail.retreat.Given as goal

abbrev pub invariant-loop-self : goal.invariant-loop-self
invariant-loop-self l = (place : ℕ) (e : End) → slice_get l.self.ends.items place ≡ Some e → slice_get l.fn.self.ends.items place ≡ Some e

abbrev pub decreases-loop-self : goal.decreases-loop-self
decreases-loop-self l = length l.self.ends.items
