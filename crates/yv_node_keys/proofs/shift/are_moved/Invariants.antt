use Rattle.std.proofs.Common.{◌-◌, ◌<◌, ◌≤◌}
use Rattle.yv_nodes.specs.declared.node.NodeId.{NodeId}
use Rattle.yv_node_keys.specs.InnerShifts.{IsMoved}
use Rattle.yv_node_keys.proofs.shift.are_moved.Given as goal

-- those before this one are so
abbrev pub invariant-loop-number : goal.invariant-loop-number
invariant-loop-number l = (n : NodeId) → l.shift.first ≤ n.0 → n.0 < l.number → IsMoved l.nodes.rows l.shift n

abbrev pub decreases-loop-number : goal.decreases-loop-number
decreases-loop-number l = l.shift.end - l.number
