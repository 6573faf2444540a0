use Rattle.yv_node_leafrefs.specs.InnerGraph.{AreEdges}
use Rattle.yv_node_leafrefs.proofs.graph.graph.Given as goal

abbrev pub invariant-loop-target : goal.invariant-loop-target
invariant-loop-target l = AreEdges l.targets l.target-index l.graph.items
