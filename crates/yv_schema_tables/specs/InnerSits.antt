-- Only private clauses cite this: trees whose rows are among others.
use Rattle.std.specs.Prelude.{◌≡◌, ℕ, ◌+◌, List, [], ◌∷◌, ◌++◌, length, if◌then◌else◌}
use Rattle.yv_node_content.specs.Kinds.{is_case, is_passed}
use Rattle.yv_nodes.specs.declared.node.NodeId.{NodeId}
use Rattle.yv_nodes.specs.Tree.{count, Forest, Label, no_trees, node, tree}
use Rattle.yv_nodes.specs.Numbers.{numbers_from, rows_below}
use Rattle.yv_nodes.specs.Rows.{Row, pick, trees_from}
use Rattle.yv_schema_tables.specs.DataChildren.{opened_from}
use Rattle.yv_schema_tables.specs.DuplicateNodes.{family}

-- the rows of these trees below a parent stand among others, the first at this number
pub record Sits (rows : List Row) (at : ℕ) (ts : Forest) : Type 0 where
  pub parent : NodeId
  pub front : List Row
  pub back : List Row
  pub split : rows ≡ front ++ rows_below parent at ts ++ back
  pub before : length front ≡ at

-- these are the numbers of trees whose rows are there
pub record HaveTrees (rows : List Row) (cs : List NodeId) : Type 0 where
  pub at : ℕ
  pub trees : Forest
  pub are : cs ≡ numbers_from at trees
  pub sit : Sits rows at trees

-- the trees of these numbers
abbrev pub pick_trees : List Row → List NodeId → Forest
pick_trees rows cs = pick 0 (trees_from 0 rows) cs

abbrev pub start_of : List NodeId → ℕ
start_of [] = 0
start_of (c ∷ cs) = c.0

-- the data nodes of the trees of these numbers, with choices and cases opened
abbrev pub inside_of : List Row → List NodeId → List NodeId
inside_of rows cs = opened_from (start_of cs) (pick_trees rows cs)

-- the data nodes that a row's object has, and none below a choice or case
abbrev pub members_of : List Row → Row → List NodeId
members_of rows row = if is_passed row.label.defined.kind then [] else inside_of rows row.children

-- the numbers of the nodes whose names have to differ below one parent, where the first node has
-- the number `first`
abbrev pub told_from : ℕ → Forest → List NodeId
told_from first no_trees = []
told_from first (tree (node l kids) ts) =
    (if is_case l.defined.kind then [] else record { 0 = first } ∷ [])
    ++ (if is_passed l.defined.kind then told_from (first + 1) kids else [])
    ++ told_from (first + 1 + count kids) ts

abbrev pub told_of : List Row → List NodeId → List NodeId
told_of rows cs = told_from (start_of cs) (pick_trees rows cs)

-- the nodes below a row whose names have to differ
abbrev pub family_in : List Row → Row → List Label
family_in rows row = family row.label.defined.kind (pick_trees rows row.children)

-- the children of a choice or case
abbrev pub inner_of : Row → List NodeId
inner_of row = if is_passed row.label.defined.kind then row.children else []
