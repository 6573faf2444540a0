use Rattle.std.proofs.Common.{◌-◌, length}
use Rattle.yv_node_keys.proofs.shift.end_below.Given as goal

abbrev pub decreases-loop-end : goal.decreases-loop-end
decreases-loop-end l = length l.nodes.rows - l.end
