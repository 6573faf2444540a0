use Rattle.std.proofs.Common.{◌≡◌, length}
use Rattle.yv_nodes.specs.Tree.{Forest}
use Rattle.yv_nodes.specs.InnerSpots.{AreRows}
use Rattle.yv_node_checks.specs.InnerBelow.{AreBelow}
use Rattle.yv_node_checks.proofs.mandatory.mandatory_below.Given as goal

abbrev pub invariant-loop-number : goal.invariant-loop-number
invariant-loop-number l = record {
  many : length l.below.items ≡ length l.nodes;
  known : (ts : Forest) → AreRows l.nodes ts → AreBelow ts l.below.items l.number;
}
