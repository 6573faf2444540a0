use Rattle.std.proofs.Common.{◌≡◌, length}
use Rattle.yv_base_numbers.specs.Restrictions.{behind_blanks}
use Rattle.yv_base_numbers.proofs.bound.behind_blanks.Given as goal

abbrev pub invariant-loop-first : goal.invariant-loop-first
invariant-loop-first l = behind_blanks l.rest ≡ behind_blanks l.text

abbrev pub decreases-loop-first : goal.decreases-loop-first
decreases-loop-first l = length l.rest
