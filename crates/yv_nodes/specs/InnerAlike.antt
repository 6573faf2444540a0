-- Only private clauses cite this: for each node the first of which the same is said.
use Rattle.std.specs.Prelude.{◌≡◌, ◌<◌, ◌≤◌, ℕ, List, length}
use Rattle.std.specs.List.{slice_index_or}
use Rattle.yv_nodes.specs.Alike.{untyped_at}
use Rattle.yv_nodes.specs.Rows.{Row}

-- this node isn't a later one, and the same is said of both
pub record IsFirst (rows : List Row) (n first : ℕ) : Type 0 where
  pub before : first ≤ n
  pub alike : untyped_at rows first ≡ untyped_at rows n

pub record AreFirsts (rows : List Row) (firsts : List ℕ) : Type 0 where
  pub each : length firsts ≡ length rows
  pub are : (n : ℕ) → n < length rows → IsFirst rows n (slice_index_or firsts n 0)
