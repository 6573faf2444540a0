use Rattle.std.proofs.Common.{arith}
use Rattle.yv_base_graph.proofs.SearchResult.{found_first_at, found_none, found_ranking}
use Rattle.yv_base_graph.proofs.cycles.first_on_cycle.Goals as goal

pub returns-then-least-graph-clause-first : goal.returns-then-least-graph-clause-first
returns-then-least-graph-clause-first c = found_first_at _ _ _ c.requires.graph c.in_ok-search.ensures c.least-least.ensures c.if-least-graph.true

pub returns-clause-none : goal.returns-clause-none
returns-clause-none c = found_none _ _ c.requires.graph c.in_ok-search.ensures (omega (arith, c.if-least-graph.false, c.least-least.ensures))

pub returns-clause-ranks : goal.returns-clause-ranks
returns-clause-ranks c = found_ranking _ _ c.requires.graph c.in_ok-search.ensures (omega (arith, c.if-least-graph.false, c.least-least.ensures))
