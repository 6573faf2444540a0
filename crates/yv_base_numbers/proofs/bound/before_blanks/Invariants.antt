use Rattle.std.proofs.Common.{◌≡◌, length, reverse}
use Rattle.yv_base_numbers.specs.Restrictions.{behind_blanks}
use Rattle.yv_base_numbers.proofs.bound.before_blanks.Given as goal

abbrev pub invariant-loop-last : goal.invariant-loop-last
invariant-loop-last l = reverse (behind_blanks (reverse l.rest)) ≡ reverse (behind_blanks (reverse l.text))

abbrev pub decreases-loop-last : goal.decreases-loop-last
decreases-loop-last l = length l.rest
