use Rattle.std.proofs.Common.{◌≡◌, ◌+◌, ◌-◌, ℕ, length, None, slice_index_or}
use Rattle.yv_expand_tree.proofs.nodes.put.Given as goal

abbrev pub invariant-loop-places : goal.invariant-loop-places
invariant-loop-places l = (d : ℕ) → slice_index_or l.places.items d None ≡ slice_index_or l.initial.places.items d None

abbrev pub decreases-loop-places : goal.decreases-loop-places
decreases-loop-places l = l.depth + 1 - length l.places.items
