-- Only private clauses cite this: graphs without edges.
use Rattle.std.specs.Prelude.{◌≡◌, ℕ, ◌<◌, List, [], length, slice_index}
use Rattle.std.specs.List.{All}
use Rattle.yv_base_graph.specs.Graph.{Graph}

-- no edge goes from any node
abbrev pub HasNoEdge : Graph → Type 0
HasNoEdge g = All (λ row. row.items ≡ []) g

-- the numbers below n, in order
pub record AreNumbers (n : ℕ) (numbers : List ℕ) : Type 0 where
  pub each : length numbers ≡ n
  pub at : (i : ℕ) → i < n → slice_index numbers i ≡ i
