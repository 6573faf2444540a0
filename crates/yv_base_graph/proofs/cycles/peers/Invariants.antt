use Rattle.yv_base_graph.proofs.Peers.{Marking}
use Rattle.yv_base_graph.proofs.cycles.peers.Given as goal

abbrev pub invariant-loop-node : goal.invariant-loop-node
invariant-loop-node l = Marking l.graph l.ranks.items l.node l.marks.items
