-- What holds of every schema, and what a JSON member means in it.
use Rattle.std.specs.Prelude.{◌≡◌, ◌≢◌, ◌≤◌, ◌<◌, ℕ, List, [], ◌∷◌, length, All, Bool, true, false, not, ◌||◌, Option, Some, None, if◌then◌else◌, slice_get}
use Rattle.std.specs.Str.{bytes_eq}
use Rattle.yv_node_content.specs.Kinds.{is_data, is_passed}
use Rattle.yv_nodes.specs.declared.node.NodeId.{NodeId}
use Rattle.yv_nodes.specs.Link.{AreLinked, reference_in}
use Rattle.yv_nodes.specs.Tree.{Forest, Label, labels, no_trees, node, tree}
use Rattle.yv_nodes.specs.Places.{Place, places}
use Rattle.yv_nodes.specs.Numbers.{numbers_from, rows_from}
use Rattle.yv_nodes.specs.Rows.{Note, Rows, below, children_of, is_root, rank, row_at, whole}
use Rattle.yv_node_keys.specs.LeafNames.{HaveLeafs}
use Rattle.yv_schema_tables.specs.DataChildren.{opened_from, opened_trees}

-- one of these trees is what a JSON member of this name writes
abbrev pub is_known : Forest → List ℕ → Bool
is_known no_trees member = false
is_known (tree (node l kids) ts) member = bytes_eq l.member member || is_known ts member

-- the first of these nodes whose JSON member is called so
abbrev pub member_named : Rows → List NodeId → List ℕ → Option NodeId
member_named s [] member = None
member_named s (c ∷ cs) member =
    if bytes_eq (row_at s c).label.member member then Some c else member_named s cs member

-- the root, or a node that isn't a choice or case: JSON objects are of these
abbrev pub is_object : Rows → NodeId → Bool
is_object s p = is_root p || not (is_passed (row_at s p).label.defined.kind)

-- the data nodes below a node that its object's members name, with choices and cases opened; a
-- choice or case has no object
abbrev pub object_trees : Rows → NodeId → Forest
object_trees s p = if is_object s p then opened_trees (below s p) else no_trees

-- their numbers
abbrev pub inside : Rows → NodeId → List NodeId
inside s p = if is_object s p then opened_from (rank p) (below s p) else []

-- a child comes after its parent, whose number it has
pub record IsChild (s : Rows) (p c : NodeId) : Type 0 where
  pub behind : rank p ≤ c.0
  pub within : c.0 < length s.nodes
  pub above : (row_at s c).parent ≡ p

-- what is in an object comes after its node, and is a data node
pub record IsInside (s : Rows) (p c : NodeId) : Type 0 where
  pub behind : rank p ≤ c.0
  pub within : c.0 < length s.nodes
  pub is_met : is_data (row_at s c).label.defined.kind ≡ true

-- a node is found by its member: no other one in the same object has that member (RFC 7950, section
-- 6.2.1)
abbrev pub IsFound : Rows → NodeId → NodeId → Type 0
IsFound s p c = member_named s (inside s p) (row_at s c).label.member ≡ Some c

-- a child that is a data node is found so
abbrev pub IsFoundBelow : Rows → NodeId → NodeId → Type 0
IsFoundBelow s p c = is_data (row_at s c).label.defined.kind ≡ true → IsFound s p c

-- no two of these nodes have one member
abbrev pub DifferInMember : List Label → Type 0
DifferInMember ls = (i k : ℕ) (a b : Label) → i < k → slice_get ls i ≡ Some a
    → slice_get ls k ≡ Some b → a.member ≢ b.member

-- the members of each object differ: those at the root, and those below each node that isn't a
-- choice or case (RFC 7950, section 6.2.1)
pub record MembersDiffer (ts : Forest) : Type 0 where
  pub top : DifferInMember (labels (opened_trees ts))
  pub below : (k : ℕ) (p : Place) → slice_get (places ts) k ≡ Some p
      → is_passed p.label.defined.kind ≡ false
      → DifferInMember (labels (opened_trees p.kids))

-- the target of an augment is a node, and what it adds are children of that
pub record IsNote (s : Rows) (n : Note) : Type 0 where
  pub target : n.target.0 < length s.nodes
  pub given : All (IsChild s n.target) n.nodes

-- there are at most as many nodes as the limit and as numbers, they are numbered as their tree is,
-- children come after their parents, no two of one object have one member, each name of a key and
-- each path of a `unique` statement is that of a leaf, augments add children to nodes, and the
-- paths of leafrefs lead from where they climb to, to leafs and leaf-lists
pub record IsSound (s : Rows) : Type 0 where
  pub small : length s.nodes ≤ 4294967295
  pub limited : length s.nodes ≤ s.limit
  pub rows : s.nodes ≡ rows_from 0 (whole s)
  pub top : s.top ≡ numbers_from 0 (whole s)
  pub children : (p : NodeId) → rank p ≤ length s.nodes → All (IsChild s p) (children_of s p)
  pub found : (p : NodeId) → rank p ≤ length s.nodes → All (IsFound s p) (inside s p)
  pub found_below : (p : NodeId) → rank p ≤ length s.nodes → is_object s p ≡ true
      → All (IsFoundBelow s p) (children_of s p)
  pub leafs : HaveLeafs s.nodes
  pub members : MembersDiffer (whole s)
  pub notes : All (IsNote s) s.augments
  pub linked : AreLinked (reference_in s.links) (whole s)
