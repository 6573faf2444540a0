use Rattle.yv_base_graph.proofs.Peers.{peers_cyclic, ranks_each}
use Rattle.yv_base_graph.proofs.NoEdges.{edgeless_cycles}
use Rattle.yv_base_graph.proofs.cycles.nodes_on_cycles.Goals as goal

pub peers-requires-clause-each : goal.peers-requires-clause-each
peers-requires-clause-each c = ranks_each _ _ _ c.in_ok-search.ensures c.in_ok-ranks.ensures

pub returns : goal.returns
returns c = record { exact = peers_cyclic _ _ _ _ c.requires.graph c.in_ok-search.ensures c.in_ok-ranks.ensures c.in_ok-marks.ensures }

pub returns-then-has_no_edge : goal.returns-then-has_no_edge
returns-then-has_no_edge c = record { exact = edgeless_cycles _ _ (c.has_no_edge.ensures c.if-has_no_edge.true) (c.in_ok-vec.ensures.items_if_clones_equal (λ y e. e)) }
