-- Nodes and the statements that define them.
use Rattle.std.specs.Prelude.{◌≡◌, ℕ, List, length, Some, slice_get}
use Rattle.yv_nodes.specs.Rows.{Row}

-- for each row there is the number of a statement, and rows of one statement have one name
pub record AreNamed (rows : List Row) (statements : List ℕ) : Type 0 where
  pub each : length statements ≡ length rows
  pub same : (n m k : ℕ) (r q : Row) → slice_get statements n ≡ Some k
      → slice_get statements m ≡ Some k
      → slice_get rows n ≡ Some r → slice_get rows m ≡ Some q
      → r.label.defined.name ≡ q.label.defined.name
