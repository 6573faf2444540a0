-- Only private clauses cite this: the first node of each name, as it is kept.
use Rattle.std.specs.Prelude.{◌≡◌, ℕ, List, Option}
use Rattle.std.specs.BTreeMap.{get}
use Rattle.std.specs.Ordering.{nat_cmp}
use Rattle.yv_expand_rounds.specs.declared.first_nodes.FirstNodes.{FirstNodes}
use Rattle.yv_expand_rounds.specs.declared.label.Label.{Label}
use Rattle.yv_expand_rounds.specs.Paths.{first_named}

-- the node that is kept for a name
abbrev pub node_of : FirstNodes → (name : ℕ) → Option ℕ
node_of nodes name = get nat_cmp nodes.map name

-- for each name the first node of these items is kept
pub record AreFirst (labels : List Label) (items : List ℕ) (nodes : FirstNodes) : Type 0 where
  pub named : (name : ℕ) → node_of nodes name ≡ first_named labels name items
