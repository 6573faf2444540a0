-- The leafs whose values make entries of lists differ (RFC 7950, sections 7.8.2 and 7.8.3), and the
-- nodes for which something asks whether their defaults are in use.
use Rattle.std.specs.Prelude.{ℕ, zero, suc, ◌||◌, Bool, false, List, [], ◌∷◌, length, map, Option}
use Rattle.yv_nodes.specs.declared.node.NodeId.{NodeId}
use Rattle.yv_nodes.specs.Link.{is_target}
use Rattle.yv_nodes.specs.Rows.{Rows, row_at}
use Rattle.yv_nodes.specs.Tree.{Label}
use Rattle.yv_node_keys.specs.Numbers.{key_leaf_at, unique_leaf_at}
use Rattle.yv_data_leafrefs.specs.InUse.{is_number}

-- the leafs that the key of the list n names (RFC 7950, section 7.8.2)
abbrev pub key_leafs : Rows → NodeId → Label → List (Option NodeId)
key_leafs s n l = map (key_leaf_at s.nodes n) l.defined.keys

-- those that each of its `unique` statements names (section 7.8.3)
abbrev pub unique_leafs : Rows → NodeId → Label → List (List (Option NodeId))
unique_leafs s n l = map (map (unique_leaf_at s.nodes n)) l.defined.uniques

-- one of these leafs has this number
abbrev pub are_named : List (Option NodeId) → ℕ → Bool
are_named [] n = false
are_named (leaf ∷ leafs) n = is_number leaf n || are_named leafs n

-- a `unique` statement names this leaf
abbrev pub some_named : List (List (Option NodeId)) → ℕ → Bool
some_named [] n = false
some_named (leafs ∷ rest) n = are_named leafs n || some_named rest n

-- the leafs of a list's key, and those of its `unique` statements
abbrev pub keys_at : Rows → NodeId → List (Option NodeId)
keys_at s p = key_leafs s p (row_at s p).label

-- the leafs that the `unique` statements of a list name
abbrev pub uniques_at : Rows → NodeId → List (List (Option NodeId))
uniques_at s p = unique_leafs s p (row_at s p).label

-- the list's key, or one of its `unique` statements, names the leaf
abbrev pub list_names : Rows → NodeId → ℕ → Bool
list_names s p n = are_named (keys_at s p) n || some_named (uniques_at s p) n

-- so does one of the first nodes, of so many
abbrev pub named_before : Rows → (many : ℕ) → ℕ → Bool
named_before s zero n = false
named_before s (suc i) n = list_names s (record { 0 = i }) n || named_before s i n

-- so does some list: the value of no other leaf makes entries differ
abbrev pub is_named : Rows → ℕ → Bool
is_named s n = named_before s (length s.nodes) n

-- the node is such a leaf, or a leafref that requires an instance leads to it
abbrev pub is_read : Rows → ℕ → Bool
is_read s n = is_target s.links n || is_named s n
