use Rattle.std.proofs.Common.{◌≡◌, ℕ, List, length, map, option_map, slice_get}
use Rattle.yv_nodes.specs.Rows.{Row}
use Rattle.yv_nodes.specs.InnerTypes.{with_own_types, types_in}
use Rattle.yv_nodes.proofs.nodes.set_types.Given as goal

abbrev pub invariant-loop-types : goal.invariant-loop-types
invariant-loop-types l =
    (length l.nodes.items ≡ length l.initial.nodes.items)
    × ((n : ℕ) → option_map (with_own_types (map types_in l.lists.items) n) (slice_get l.nodes.items n)
    ≡ option_map (with_own_types (map types_in l.initial.lists.items) n) (slice_get l.initial.nodes.items n))

abbrev pub decreases-loop-types : goal.decreases-loop-types
decreases-loop-types l = goal.left-loop-types l
