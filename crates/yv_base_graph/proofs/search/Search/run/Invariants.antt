use Rattle.std.proofs.Common.{ℕ, ◌<◌}
use Rattle.yv_base_graph.specs.InnerSearch.{IsSearch, IsIdle, IsVisited}
use Rattle.yv_base_graph.proofs.search.Search.run.Given as goal

abbrev pub invariant-loop-node : goal.invariant-loop-node
invariant-loop-node l = record { searching : IsSearch l.graph l.search; idle : IsIdle l.search; visited : (x : ℕ) → x < l.node → IsVisited l.search x }
