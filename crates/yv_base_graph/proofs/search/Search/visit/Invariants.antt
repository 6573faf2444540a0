use Rattle.yv_base_graph.specs.InnerSearch.{IsSearch, KeepsVisited, IsVisited, left_of}
use Rattle.yv_base_graph.proofs.search.Search.visit.Given as goal

abbrev pub invariant-loop-self : goal.invariant-loop-self
invariant-loop-self l = record { searching : IsSearch l.graph l.self; kept : KeepsVisited l.fn.self l.self; visited : IsVisited l.self l.node }

abbrev pub decreases-loop-self : goal.decreases-loop-self
decreases-loop-self l = left_of l.graph l.self
