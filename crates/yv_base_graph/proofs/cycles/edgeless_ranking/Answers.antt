use Rattle.yv_base_graph.proofs.NoEdges.{edgeless_ranks, edgeless_order, edgeless_places}
use Rattle.yv_base_graph.proofs.cycles.edgeless_ranking.Goals as goal

pub returns-clause-ranks : goal.returns-clause-ranks
returns-clause-ranks c = edgeless_ranks _ _ c.requires c.in_ok-ranks.ensures

pub returns-clause-order : goal.returns-clause-order
returns-clause-order c = edgeless_order _ _ c.requires c.in_ok-order.ensures

pub returns-clause-places : goal.returns-clause-places
returns-clause-places c = edgeless_places _ _ _ c.in_ok-ranks.ensures c.in_ok-order.ensures
