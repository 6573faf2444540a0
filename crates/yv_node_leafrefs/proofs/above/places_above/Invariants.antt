use Rattle.std.proofs.Common.{◌≡◌, length}
use Rattle.yv_node_leafrefs.specs.InnerOutline.{AreAbove}
use Rattle.yv_node_leafrefs.proofs.above.places_above.Given as goal

abbrev pub invariant-loop-node : goal.invariant-loop-node
invariant-loop-node l = (length l.above.items ≡ l.node-index) × AreAbove l.nodes l.node-index l.above.items
