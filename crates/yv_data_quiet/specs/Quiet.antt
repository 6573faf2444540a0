-- Nodes of which nothing comes but steps, where neither they nor nodes in them exist in an object,
-- whatever is around them.
use Rattle.std.specs.Prelude.{◌≡◌, ℕ, ◌+◌, ◌-◌, ◌==◌, ◌&&◌, ◌||◌, not, Bool, true, List, length, Option, Some, None, slice_get, if◌then◌else◌}
use Rattle.serde_json.specs.Data.{Members, no_members}
use Rattle.yv_node_content.specs.declared.kind.NodeKind.{NodeKind}
use Rattle.yv_node_content.specs.declared.kind.NodeKind.TheVariants as kind
use Rattle.yv_node_content.specs.Kinds.{is_operation_or_notification}
use Rattle.yv_nodes.specs.declared.node.NodeId.{NodeId}
use Rattle.yv_nodes.specs.Defaults.{has_no_value, width}
use Rattle.yv_nodes.specs.Rows.{below, rank, Rows, tree_of}
use Rattle.yv_nodes.specs.Tree.{count, Forest, Label, Tree, no_trees, node, tree}
use Rattle.yv_schema_tables.specs.Measures.{is_open, count_met}
use Rattle.yv_schema_tables.specs.Sound.{IsSound}
use Rattle.yv_walk.specs.Existence.{tree_standing}
use Rattle.yv_walk.specs.declared.existence.Existence.TheVariants.{Nothing}
use Rattle.yv_data_quiet.specs.NamedLeafs.{is_read}

-- no default of it is in use, or nothing asks whether it is
abbrev pub is_unread : (asked : Bool) → Label → Bool
is_unread asked l = has_no_value l || not asked

-- nothing is missed where the node itself isn't there, and its defaults don't matter
abbrev pub is_mute : (asked : Bool) → NodeKind → Label → Bool
is_mute asked kind.Leaf l = not l.is_key && not l.defined.is_mandatory && is_unread asked l
is_mute asked kind.LeafList l = (l.defined.min == 0) && is_unread asked l
is_mute asked kind.List l = l.defined.min == 0
is_mute asked kind.Choice l = not l.defined.is_mandatory
is_mute asked kind.Anydata l = not l.defined.is_mandatory
is_mute asked kind.Anyxml l = not l.defined.is_mandatory
is_mute asked _ l = true

-- so is each node of these trees that is met where they are, of which the first has the number
-- `first`; operations and notifications are met nowhere
abbrev pub are_quiet : Rows → (first : ℕ) → Forest → Bool
are_quiet s first no_trees = true
are_quiet s first (tree (node l kids) ts) =
    (is_operation_or_notification l.defined.kind
    || (is_mute (is_read s first) l.defined.kind l
    && (not (is_open l) || are_quiet s (first + 1) kids)))
    && are_quiet s (first + 1 + count kids) ts

-- of a node that isn't written nothing comes but steps
abbrev pub is_quiet : Rows → ℕ → Tree → Bool
is_quiet s n (node l kids) = is_operation_or_notification l.defined.kind
    || (is_mute (is_read s n) l.defined.kind l && (not (is_open l) || are_quiet s (n + 1) kids))

-- the steps of one tree
abbrev pub tree_met : Tree → ℕ
tree_met (node l kids) = if is_operation_or_notification l.defined.kind then 0
    else width l + (if is_open l then count_met kids else 0)

-- the steps of a quiet tree, whose node has this number
abbrev pub quiet_steps : Rows → ℕ → Tree → Option ℕ
quiet_steps s n t = if is_quiet s n t then Some (tree_met t) else None

-- those of a node with all that is met below it
abbrev pub steps_at : Rows → NodeId → Option ℕ
steps_at s n = quiet_steps s n.0 (tree_of s n)

-- the node that has so many after it
abbrev pub node_back : Rows → ℕ → NodeId
node_back s i = record { 0 = length s.nodes - 1 - i }

-- what is known of the nodes, from the last to the first: where a tree has steps here, it is quiet
abbrev pub AreKnown : Rows → List (Option ℕ) → Type 0
AreKnown s known =
    (i w : ℕ) → slice_get known i ≡ Some (Some w) → steps_at s (node_back s i) ≡ Some w

-- a node with these steps is passed over in an object with these members
pub record IsPassed (s : Rows) (n : NodeId) (ms : Members) (steps : ℕ) : Type 0 where
  pub sound : IsSound s
  pub quiet : steps_at s n ≡ Some steps
  pub nothing : tree_standing n.0 (tree_of s n) ms ≡ Nothing

-- what is below a node is passed over in an object without members, in these steps
pub record IsEmptied (s : Rows) (p : NodeId) (ms : Members) (total : ℕ) : Type 0 where
  pub empty : ms ≡ no_members
  pub quiet : are_quiet s (rank p) (below s p) ≡ true
  pub steps : count_met (below s p) ≡ total
