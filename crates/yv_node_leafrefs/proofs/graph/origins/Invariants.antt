use Rattle.std.proofs.Common.{◌≡◌, ℕ, length, slice_index}
use Rattle.yv_node_leafrefs.specs.Schema.{Schema}
use Rattle.yv_node_leafrefs.specs.Targets.{HasTypesOf}
use Rattle.yv_node_leafrefs.specs.InnerGraph.{AreTargets, IsVisited}
use Rattle.yv_node_leafrefs.proofs.graph.origins.Given as goal

abbrev pub invariant-loop-number : goal.invariant-loop-number
invariant-loop-number l = length l.origins.items ≡ l.number

abbrev pub invariant-loop-node : goal.invariant-loop-node
invariant-loop-node l =
    (length l.origins.items ≡ length l.targets)
    × ((t : Schema) → AreTargets t l.targets → (n : ℕ) → IsVisited l.node-items l.node-index n → HasTypesOf t n (slice_index l.origins.items n))
