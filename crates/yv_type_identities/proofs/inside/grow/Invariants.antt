use Rattle.std.proofs.Common.{◌≡◌, ◌+◌, ◌-◌, ℕ, length}
use Rattle.yv_type_identities.specs.InnerBases.{bases_at}
use Rattle.yv_type_identities.proofs.inside.grow.Given as goal

abbrev pub invariant-loop-alloc : goal.invariant-loop-alloc
invariant-loop-alloc l = (k : ℕ) → bases_at l.lists.items k ≡ bases_at l.fn.lists.items k

abbrev pub decreases-loop-alloc : goal.decreases-loop-alloc
decreases-loop-alloc l = l.block + 1 - length l.lists.items
