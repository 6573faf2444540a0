use Rattle.std.proofs.Common.{◌≡◌, ◌≤◌, drop, length}
use Rattle.std.specs.BTreeMap.{get}
use Rattle.std.specs.Ordering.{nat_cmp}
use Rattle.yv_nodes.specs.declared.node.NodeId.{NodeId}
use Rattle.yv_node_keys.specs.InnerCounterparts.{counterpart}
use Rattle.yv_node_keys.proofs.counterparts.counterparts.Given as goal

-- what is kept of the last pairs
abbrev pub invariant-loop-left : goal.invariant-loop-left
invariant-loop-left l = record {
  within : l.left ≤ length l.ones;
  kept : (n : NodeId) → get nat_cmp l.found n.0 ≡ counterpart n (drop l.left l.ones) (drop l.left l.others);
}

abbrev pub decreases-loop-left : goal.decreases-loop-left
decreases-loop-left l = l.left
