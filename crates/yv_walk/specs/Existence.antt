-- Which data nodes exist in one object of a document: through choices and cases, and each by its
-- number (RFC 7950, sections 7.5 to 7.11).
use Rattle.std.specs.Prelude.{◌≡◌, ℕ, ◌+◌, ◌<◌, ◌==◌, ◌&&◌, ◌||◌, Bool, true, false, not, length, Option, Some, None, if◌then◌else◌}
use Rattle.std.specs.List.{slice_index_or}
use Rattle.serde_json.specs.Data.{Data, array, no_items, Members}
use Rattle.serde_json.specs.Find.{get_member}
use Rattle.yv_node_content.specs.declared.kind.NodeKind.{NodeKind}
use Rattle.yv_node_content.specs.declared.kind.NodeKind.TheVariants as kind
use Rattle.yv_node_content.specs.Kinds.{is_data, is_passed}
use Rattle.yv_nodes.specs.declared.node.NodeId.{NodeId}
use Rattle.yv_nodes.specs.Tree.{count, Forest, Tree, no_trees, node, tree}
use Rattle.yv_nodes.specs.Rows.{Rows, below, children_of, is_root, rank, row_at, tree_of}
use Rattle.yv_schema_tables.specs.Sound.{is_object}
use Rattle.yv_walk.specs.declared.existence.Existence.{Existence}
use Rattle.yv_walk.specs.declared.existence.Existence.TheVariants.{Nothing, Only, Several}

-- the nodes of two groups together
abbrev pub both : Existence → Existence → Existence
both Nothing b = b
both Several b = Several
both (Only n) Nothing = Only n
both (Only n) (Only m) = if n.0 == m.0 then Only n else Several
both (Only n) Several = Several

-- some node exists
abbrev pub any : Existence → Bool
any Nothing = false
any _ = true

-- some node exists but for this one
abbrev pub any_but : NodeId → Existence → Bool
any_but n Nothing = false
any_but n (Only m) = not (m.0 == n.0)
any_but n Several = true

-- it isn't an empty array
abbrev pub has_items : Data → Bool
has_items (array no_items) = false
has_items _ = true

-- a node of this kind that is written so exists: an empty array has no entry of its list or
-- leaf-list, so that it is as if it weren't written, and only data nodes exist
abbrev pub is_there : NodeKind → Data → Bool
is_there kind.List d = has_items d
is_there kind.LeafList d = has_items d
is_there k d = is_data k

-- a node that isn't a choice or case, with the value that is written for it
abbrev pub row_standing : NodeKind → NodeId → Option Data → Existence
row_standing k n None = Nothing
row_standing k n (Some d) = if is_there k d then Only n else Nothing

-- a choice or case exists by what is in it
abbrev pub kind_standing : NodeKind → NodeId → Option Data → Existence → Existence
kind_standing k n found inner = if is_passed k then inner else row_standing k n found

-- which data nodes exist of these trees in an object with these members, where the first node has
-- the number `first`
abbrev pub existence_of : ℕ → Forest → Members → Existence
existence_of first no_trees ms = Nothing
existence_of first (tree (node l kids) ts) ms =
    both (kind_standing l.defined.kind (record { 0 = first }) (get_member l.member ms)
    (existence_of (first + 1) kids ms))
    (existence_of (first + 1 + count kids) ts ms)

-- those of one tree
abbrev pub tree_standing : ℕ → Tree → Members → Existence
tree_standing first (node l kids) ms =
    kind_standing l.defined.kind (record { 0 = first }) (get_member l.member ms)
    (existence_of (first + 1) kids ms)

-- how many of these trees exist
abbrev pub count_standing : ℕ → Forest → Members → ℕ
count_standing first no_trees ms = 0
count_standing first (tree (node l kids) ts) ms =
    (if any (kind_standing l.defined.kind (record { 0 = first }) (get_member l.member ms)
    (existence_of (first + 1) kids ms)) then 1 else 0)
    + count_standing (first + 1 + count kids) ts ms

-- ---- where a node is

-- the node is a choice or a case
abbrev pub passes : Rows → NodeId → Bool
passes s p = if is_root p then false else is_passed (row_at s p).label.defined.kind

-- the node is one of these trees' own, or is in their choices and cases
abbrev pub holds : ℕ → Forest → NodeId → Bool
holds first no_trees n = false
holds first (tree (node l kids) ts) n =
    ((first == n.0) || (is_passed l.defined.kind && holds (first + 1) kids n))
    || holds (first + 1 + count kids) ts n

-- the node is in the object of p: a child, or in its choices and cases; a choice or case has no
-- object
abbrev pub stands_in : Rows → (p n : NodeId) → Bool
stands_in s p n = is_object s p && holds (rank p) (below s p) n

-- the children of the node n stand in the object of p
abbrev pub ChildrenStand : Rows → (p n : NodeId) → Type 0
ChildrenStand s p n =
    (i : ℕ) (d : NodeId) → i < length (children_of s n)
    → stands_in s p (slice_index_or (children_of s n) i d) ≡ true

-- ---- one after the other

-- the child of a choice or case that has this place, from 0
abbrev pub child_at : Rows → NodeId → (place : ℕ) → NodeId
child_at s p place = slice_index_or (children_of s p) place p

-- it exists in an object with these members
abbrev pub child_exists : Rows → NodeId → Members → (place : ℕ) → Bool
child_exists s p ms place =
    any (tree_standing (child_at s p place).0 (tree_of s (child_at s p place)) ms)
