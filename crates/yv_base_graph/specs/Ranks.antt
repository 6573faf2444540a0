-- What a ranking answers: ranks and an order, or a node on a cycle.
use Rattle.std.specs.Prelude.{ℕ, List}
use Rattle.yv_base_graph.specs.declared.cycles.Ranking.{Ranking}
use Rattle.yv_base_graph.specs.declared.cycles.Ranking.TheVariants.{Ranks, Cycle}

-- where there are ranks, this holds of them and their order
abbrev pub IfRanks : Ranking → (List ℕ → List ℕ → Type 0) → Type 0
IfRanks (Ranks ranks order) Holds = Holds ranks.items order.items
IfRanks (Cycle node) Holds = Unit {0}

-- where there is a cycle, this holds of the node on it
abbrev pub IfCycle : Ranking → (ℕ → Type 0) → Type 0
IfCycle (Ranks ranks order) Holds = Unit {0}
IfCycle (Cycle node) Holds = Holds node
