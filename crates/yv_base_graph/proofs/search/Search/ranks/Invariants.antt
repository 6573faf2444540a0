use Rattle.std.proofs.Common.{◌≡◌, map, take}
use Rattle.yv_base_graph.specs.InnerSearch.{rank_of}
use Rattle.yv_base_graph.proofs.search.Search.ranks.Given as goal

abbrev pub invariant-loop-state : goal.invariant-loop-state
invariant-loop-state l = l.ranks.items ≡ map rank_of (take l.state-index l.self.states)
