use Rattle.std.proofs.Common.{arith}
use Rattle.yv_base_graph.proofs.SearchResult.{found_first_at, found_ranks_at, found_order_at, found_places_at}
use Rattle.yv_base_graph.proofs.cycles.searched_ranking.Goals as goal

pub returns-then-least-graph-clause-cycle : goal.returns-then-least-graph-clause-cycle
returns-then-least-graph-clause-cycle c = found_first_at _ _ _ c.requires.graph c.in_ok-search.ensures c.least-least.ensures c.if-least-graph.true

pub returns-clause-ranks : goal.returns-clause-ranks
returns-clause-ranks c = found_ranks_at _ _ _ c.requires.graph c.in_ok-search.ensures (omega (arith, c.if-least-graph.false, c.least-least.ensures)) c.in_ok-ranks.ensures

pub returns-clause-order : goal.returns-clause-order
returns-clause-order c = found_order_at _ _ _ c.requires.graph c.in_ok-search.ensures (omega (arith, c.if-least-graph.false, c.least-least.ensures)) c.into_order-order.ensures

pub returns-clause-places : goal.returns-clause-places
returns-clause-places c = found_places_at _ _ _ _ c.in_ok-search.ensures (omega (arith, c.if-least-graph.false, c.least-least.ensures)) c.in_ok-ranks.ensures c.into_order-order.ensures
