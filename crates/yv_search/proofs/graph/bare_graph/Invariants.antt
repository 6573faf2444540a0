use Rattle.yv_search.specs.InnerGraph.{IsBare}
use Rattle.yv_search.proofs.graph.bare_graph.Given as goal

abbrev pub invariant-loop : goal.invariant-loop
invariant-loop l = IsBare l.counter l.graph.items
