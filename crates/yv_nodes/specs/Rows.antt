-- A schema as numbered rows: what contracts see of a `Schema`, and the tree that it describes.
use Rattle.std.specs.Prelude.{◌≡◌, ℕ, ◌+◌, ◌-◌, ◌<◌, ◌≤◌, ◌==◌, List, [], ◌∷◌, length, drop, Bool, false, Option, Some, if◌then◌else◌, slice_get}
use Rattle.std.specs.List.{slice_index_or}
use Rattle.yv_nodes.specs.declared.node.NodeId.{NodeId}
use Rattle.yv_node_content.specs.Definition.{blank as blank_defined}
use Rattle.yv_nodes.specs.Link.{Link}
use Rattle.yv_nodes.specs.Tree.{Label, Tree, node, Forest, no_trees, tree}

-- a schema node, the number of the node above it, and the numbers of the nodes below it, in order
pub record Row : Type 0 where
  pub label : Label
  pub parent : NodeId
  pub children : List NodeId

-- rows within a limit, and how many of them the memory that was asked for has room for
pub record WithinLimit : Type 0 where
  pub limit : ℕ
  pub capacity : ℕ
  pub rows : List Row

-- an implemented module: its name, its prefix, and the number of its file
pub record Module : Type 0 where
  pub name : List ℕ
  pub prefix : List ℕ
  pub module_file : ℕ

-- an `augment` statement at the top of a module, the number of whose file is `module_file`: its
-- argument, the node to which that leads, and the nodes that it adds below it
pub record Note : Type 0 where
  pub module_file : ℕ
  pub argument : List ℕ
  pub target : NodeId
  pub nodes : List NodeId

-- the rows by number, from 0, the numbers of the nodes at the top, in order, the most nodes that
-- there may be, the implemented modules by file, the augments in order, and for each leafref that
-- requires an instance where its path leads
pub record Rows : Type 0 where
  pub nodes : List Row
  pub top : List NodeId
  pub limit : ℕ
  pub modules : List Module
  pub augments : List Note
  pub links : List (Option Link)

-- the root, the parent of the nodes at the top, has the last number of 32 bits
abbrev pub root : NodeId
root = record { 0 = 4294967295 }

-- what is where there is no row
abbrev pub blank_row : Row
blank_row = record {
  label = record {
    defined = blank_defined;
    module_file = 0;
    module_name = [];
    member = [];
    is_config = false;
    is_key = false;
    is_input = false;
  };
  parent = root;
  children = [];
}

-- the row of a node
abbrev pub row_at : Rows → NodeId → Row
row_at s p = slice_index_or s.nodes p.0 blank_row

-- a number is that of the root
abbrev pub is_root : NodeId → Bool
is_root p = p.0 == 4294967295

-- the numbers of the nodes below a node, or of those at the top
abbrev pub children_of : Rows → NodeId → List NodeId
children_of s p = if is_root p then s.top else (row_at s p).children

-- one more than the number, and 0 at the root
abbrev pub rank : NodeId → ℕ
rank p = if is_root p then 0 else p.0 + 1

-- each row comes after the one above it, unless that is the root
abbrev pub StandBehind : List Row → Type 0
StandBehind rows =
    (number : ℕ) (row : Row) → slice_get rows number ≡ Some row → rank row.parent ≤ number

-- what is where there is no tree
abbrev pub blank : Tree
blank = node blank_row.label no_trees

-- the trees of these numbers, where the first of the list has the number `first`
abbrev pub pick : ℕ → List Tree → List NodeId → Forest
pick first ts [] = no_trees
pick first ts (c ∷ cs) = tree (slice_index_or ts (c.0 - first) blank) (pick first ts cs)

-- the tree of each row, where the first has the number `first`: children come after their parents
abbrev pub trees_from : ℕ → List Row → List Tree
trees_from first [] = []
trees_from first (r ∷ rs) = node r.label (pick (first + 1) (trees_from (first + 1) rs) r.children)
    ∷ trees_from (first + 1) rs

-- the trees of these numbers
abbrev pub forest : Rows → List NodeId → Forest
forest s cs = pick 0 (trees_from 0 s.nodes) cs

-- the trees below a node
abbrev pub below : Rows → NodeId → Forest
below s p = forest s (children_of s p)

-- the tree of a node
abbrev pub tree_of : Rows → NodeId → Tree
tree_of s c = node (row_at s c).label (below s c)

-- the trees of these numbers are those of their nodes: from each place on, the tree of the node
-- there, and then the trees of those after it
abbrev pub AreTrees : Rows → List NodeId → Type 0
AreTrees s cs =
    (i : ℕ) (d : NodeId) → i < length cs
    → forest s (drop i cs) ≡ tree (tree_of s (slice_index_or cs i d)) (forest s (drop (i + 1) cs))

-- the schema tree that the rows describe
abbrev pub whole : Rows → Forest
whole s = forest s s.top
