use Rattle.std.proofs.Common.{◌≡◌}
use Rattle.std.specs.List.{AllAdjacentBelow}
use Rattle.std.specs.declared.cmp.Ordering.TheVariants.{Less}
use Rattle.yv_values.specs.Identities.{id_cmp}
use Rattle.yv_values.specs.InnerMembers.{entry_id}
use Rattle.yv_values.proofs.numbered_members.rise.Given as goal

abbrev pub invariant-loop-place : goal.invariant-loop-place
invariant-loop-place l = AllAdjacentBelow (λ a b. id_cmp (entry_id a) (entry_id b) ≡ Less) l.members l.place
