-- How a schema tree is numbered, each node before those below it.
use Rattle.std.specs.Prelude.{ℕ, ◌+◌, List, [], ◌∷◌, ◌++◌, Option}
use Rattle.yv_nodes.specs.declared.node.NodeId.{NodeId}
use Rattle.yv_nodes.specs.Tree.{Forest, count, no_trees, tree, node}
use Rattle.yv_nodes.specs.Link.{Link}
use Rattle.yv_nodes.specs.Rows.{Module, Note, Row, Rows, root}

-- the numbers of the trees' own nodes, where the first has the number `first`
abbrev pub numbers_from : ℕ → Forest → List NodeId
numbers_from first no_trees = []
numbers_from first (tree (node l kids) ts) =
    record { 0 = first } ∷ numbers_from (first + 1 + count kids) ts

-- the rows of all nodes below a parent, where the first has the number `first`
abbrev pub rows_below : (parent : NodeId) → ℕ → Forest → List Row
rows_below parent first no_trees = []
rows_below parent first (tree (node l kids) ts) =
    record { label = l; parent = parent; children = numbers_from (first + 1) kids }
    ∷ rows_below (record { 0 = first }) (first + 1) kids
    ++ rows_below parent (first + 1 + count kids) ts

-- those below the root
abbrev pub rows_from : ℕ → Forest → List Row
rows_from first ts = rows_below root first ts

-- the rows of a schema tree within a limit, with these modules, augments and links
abbrev pub rows_of : (limit : ℕ) → List Module → List Note → List (Option Link) → Forest → Rows
rows_of limit modules augments links ts = record {
  nodes = rows_from 0 ts;
  top = numbers_from 0 ts;
  limit = limit;
  modules = modules;
  augments = augments;
  links = links;
}
