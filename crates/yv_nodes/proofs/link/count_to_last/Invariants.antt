use Rattle.std.proofs.Common.{◌≡◌, ◌-◌, ◌≤◌, None, drop, length, replicate}
use Rattle.yv_nodes.proofs.link.count_to_last.Given as goal

-- no link stands after these places
abbrev pub invariant-loop-count : goal.invariant-loop-count
invariant-loop-count l = record {
  within : l.count ≤ length l.links;
  rest : drop l.count l.links ≡ replicate (length l.links - l.count) None;
}

abbrev pub decreases-loop-count : goal.decreases-loop-count
decreases-loop-count l = l.count
