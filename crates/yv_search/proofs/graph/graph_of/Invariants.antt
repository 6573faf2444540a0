use Rattle.std.proofs.Common.{take}
use Rattle.yv_search.specs.InnerGraph.{IsGraphOf}
use Rattle.yv_search.proofs.graph.graph_of.Given as goal

abbrev pub invariant-loop-edge : goal.invariant-loop-edge
invariant-loop-edge l = IsGraphOf l.count (take l.edge-index l.edges) l.graph.items
