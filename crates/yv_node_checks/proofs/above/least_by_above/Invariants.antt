use Rattle.std.proofs.Common.{◌≡◌, length}
use Rattle.yv_text_statement.specs.Order.{Among, IsLeast}
use Rattle.yv_nodes.specs.Tree.{Forest}
use Rattle.yv_nodes.specs.Places.{places}
use Rattle.yv_nodes.specs.InnerSpots.{AreRows}
use Rattle.yv_node_checks.specs.Above.{BadBelow}
use Rattle.yv_node_checks.proofs.AncestryTable.{AreKept}
use Rattle.yv_node_checks.proofs.above.least_by_above.Given as goal

abbrev pub invariant-loop-node : goal.invariant-loop-node
invariant-loop-node l = record {
  many : length l.lineage.items ≡ l.node-index;
  kept : (ts : Forest) → AreRows l.nodes ts → AreKept ts l.lineage.items l.node-index;
  least : (ts : Forest) → AreRows l.nodes ts → IsLeast (Among (places ts) (λ k. BadBelow) l.node-index) l.least;
}
