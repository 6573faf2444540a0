use Rattle.std.proofs.Common.{◌≡◌, None}
use Rattle.yv_text_statement.specs.Order.{Among, IsLeast}
use Rattle.yv_nodes.specs.Tree.{Forest}
use Rattle.yv_nodes.specs.Places.{places}
use Rattle.yv_nodes.specs.Numbers.{rows_from}
use Rattle.yv_node_keys.specs.Bad.{BadOfLeafs}
use Rattle.yv_node_keys.specs.InnerTargets.{AreRight, AreUpTo}
use Rattle.yv_node_keys.proofs.targets.leaf_targets.Given as goal

abbrev pub invariant-loop-number : goal.invariant-loop-number
invariant-loop-number l = record {
  right : AreRight l.nodes.rows l.targets;
  known : l.fault ≡ None → AreUpTo l.nodes.rows l.targets l.number;
  least : (ts : Forest) → l.nodes.rows ≡ rows_from 0 ts → IsLeast (Among (places ts) (λ k. BadOfLeafs) l.number) l.fault;
}
