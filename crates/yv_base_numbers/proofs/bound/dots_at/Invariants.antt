use Rattle.std.proofs.Common.{◌≡◌, ◌-◌, drop}
use Rattle.yv_base_numbers.specs.Restrictions.{dots_at}
use Rattle.yv_base_numbers.proofs.Texts.{shifted}
use Rattle.yv_base_numbers.proofs.bound.dots_at.Given as goal

abbrev pub invariant-loop-at : goal.invariant-loop-at
invariant-loop-at l = dots_at l.text ≡ shifted (l.at - 1) (dots_at (drop (l.at - 1) l.text))
