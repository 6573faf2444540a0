use Rattle.std.proofs.lemmas.Option.{slice_get-get_or}
use Rattle.yv_search.proofs.GraphEdges.{graph_of_none, graph_more}
use Rattle.yv_search.proofs.graph.graph_of.Goals as goal

pub loop-edge-init : goal.loop-edge-init
loop-edge-init c = graph_of_none c.args.count c.in_ok-graph.graph.items c.in_ok-graph.ensures

pub loop-edge-preserved : goal.loop-edge-preserved
loop-edge-preserved c =
    graph_more c.args.count c.args.edges.now c.loop-edge.edge-index _ c.number_of-from.result c.number_of-to.result c.loop-edge.graph.items c.connect.new.graph.items
    (slice_get-get_or c.args.edges.now c.loop-edge.edge-index _ c.loop-edge-test.true) c.number_of-from.ensures c.number_of-to.ensures c.loop-edge.invariant c.in_ok-connect.ensures
