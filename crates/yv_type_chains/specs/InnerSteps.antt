-- Only private clauses cite this: the graph of the types.
use Rattle.std.specs.Prelude.{◌≡◌, ◌↔◌, ℕ, true, false, List, length, Option, Some, slice_get}
use Rattle.std.specs.List.{Contains}
use Rattle.yv_link_scopes.specs.Rows.{Row}
use Rattle.yv_base_graph.specs.Graph.{Graph, IsGraph}
use Rattle.yv_type_chains.specs.Types.{is_union, types_in}
use Rattle.yv_base_tables.specs.Slots.{at}
use Rattle.yv_type_chains.specs.InnerTables.{items_at}

-- the edges of statement k: to a union's members, else to the type that it follows
pub record AreEdges (rows : List Row) (follows : List (Option ℕ)) (k : ℕ) (r : Row)
    (row : List ℕ) : Type 0 where
  pub members : is_union r ≡ true → row ≡ types_in rows k
  pub followed : is_union r ≡ false → (j : ℕ) → Contains row j ↔ (at follows k ≡ Some j)

-- a node for each statement, with its edges
pub record AreSteps (rows : List Row) (follows : List (Option ℕ)) (g : Graph) : Type 0 where
  pub each : length g ≡ length rows
  pub within : IsGraph g
  pub edges : (k : ℕ) (r : Row) → slice_get rows k ≡ Some r
      → AreEdges rows follows k r (items_at g k)
