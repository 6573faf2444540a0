use Rattle.std.proofs.Common.{◌≤◌, ◌-◌, length, take}
use Rattle.yv_node_keys.specs.InnerCounterparts.{ArePairs}
use Rattle.yv_node_keys.proofs.counterparts.count_pairs.Given as goal

-- those so far are pairs
abbrev pub invariant-loop-count : goal.invariant-loop-count
invariant-loop-count l = record {
  ones : l.count ≤ length l.ones;
  others : l.count ≤ length l.others;
  pairs : ArePairs l.nodes.rows (take l.count l.ones) (take l.count l.others);
}

abbrev pub decreases-loop-count : goal.decreases-loop-count
decreases-loop-count l = length l.ones - l.count
