use Rattle.std.proofs.Common.{length, ◌-◌}
use Rattle.yv_base_graph.proofs.Reachability.{Reaching}
use Rattle.yv_base_graph.proofs.reach.reachable_from.Given as goal

abbrev pub invariant-loop-next : goal.invariant-loop-next
invariant-loop-next l = Reaching l.graph l.from l.next l.marks.items l.found.items

abbrev pub decreases-loop-next : goal.decreases-loop-next
decreases-loop-next l = length l.graph - l.next
