-- Only private clauses cite this: how the nodes of a row are marked.
use Rattle.std.specs.Prelude.{◌≡◌, ℕ, ◌+◌, ◌⊎◌, Bool, List, ◌++◌, length}
use Rattle.std.specs.List.{All, Contains, count_by}
use Rattle.yv_base_graph.specs.Graph.{IsMarked}

-- a row's nodes are marked, and those that weren't marked before are added to a list
pub record MarksRow (row : List ℕ) (old : List Bool) (before : List ℕ) (new : List Bool)
    (after : List ℕ) : Type 0 where
  pub each : length new ≡ length old
  pub kept : (b : ℕ) → IsMarked old b → IsMarked new b
  pub marked : All (IsMarked new) row
  pub listed : (b : ℕ) → IsMarked new b → IsMarked old b ⊎ Contains after b
  pub added : (more : List ℕ) × (after ≡ before ++ more) × All (Contains row) more
  pub counted : count_by (λ mark. mark) new + length before
      ≡ count_by (λ mark. mark) old + length after
