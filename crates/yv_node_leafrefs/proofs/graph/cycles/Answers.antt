use Rattle.std.proofs.Common.{length, ◌∙◌, ap}
use Rattle.yv_node_leafrefs.proofs.LeafrefGraph.{cycles_in, graph_in}
use Rattle.yv_node_leafrefs.proofs.graph.cycles.Goals as goal

pub nodes_on_cycles-requires : goal.nodes_on_cycles-requires
nodes_on_cycles-requires c =
    record { graph = graph_in c.requires.0 c.args.targets.now c.in_ok-graph.graph.items c.deref.result.now c.requires.1 c.requires.2 c.in_ok-graph.ensures c.deref.ensures.value }

pub returns-clause-each : goal.returns-clause-each
returns-clause-each c = c.in_ok-marks.ensures.exact.each ∙ ap length c.deref.ensures.value ∙ c.in_ok-graph.ensures.0

pub returns-clause-cycles : goal.returns-clause-cycles
returns-clause-cycles c t each are = cycles_in t c.args.targets.now c.in_ok-graph.graph.items c.deref.result.now c.in_ok-marks.marks.items each are c.in_ok-graph.ensures c.deref.ensures.value c.in_ok-marks.ensures.exact
