-- Only private clauses cite this: nodes that are known to have a name.
use Rattle.std.specs.Prelude.{◌≡◌, ◌<◌, ℕ, List, length, Option, Some, None}
use Rattle.yv_nodes.specs.declared.node.NodeId.{NodeId}
use Rattle.yv_nodes.specs.Alike.{untyped_at}
use Rattle.yv_nodes.specs.Rows.{Row}

-- the node of this number has this name
pub record HasName (rows : List Row) (name : List ℕ) (n : ℕ) : Type 0 where
  pub within : n < length rows
  pub is : (untyped_at rows n).name ≡ name

-- it has, if there is one
abbrev pub HaveName : List Row → (name : List ℕ) → Option NodeId → Type 0
HaveName rows name None = Unit {0}
HaveName rows name (Some n) = HasName rows name n.0
