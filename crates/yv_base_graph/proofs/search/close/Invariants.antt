use Rattle.std.proofs.Common.{take}
use Rattle.yv_base_graph.specs.InnerSearch.{Closes}
use Rattle.yv_base_graph.proofs.search.close.Given as goal

abbrev pub invariant-loop-node : goal.invariant-loop-node
invariant-loop-node l = Closes l.rank (take l.node-index l.nodes) l.fn.states.items l.states.items
