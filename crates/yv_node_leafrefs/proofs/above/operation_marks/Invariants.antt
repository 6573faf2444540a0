use Rattle.std.proofs.Common.{◌≡◌, length}
use Rattle.yv_node_leafrefs.specs.InnerOutline.{AreInside}
use Rattle.yv_node_leafrefs.proofs.above.operation_marks.Given as goal

abbrev pub invariant-loop-node : goal.invariant-loop-node
invariant-loop-node l = (length l.inside.items ≡ l.node-index) × AreInside l.nodes l.node-index l.inside.items
