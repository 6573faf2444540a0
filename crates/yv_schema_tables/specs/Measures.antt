-- What a schema measures: the numbers by which the steps of a validation are bounded.
use Rattle.std.specs.Prelude.{ℕ, ◌+◌, length, max, Bool, true, false, not, ◌&&◌, ◌||◌, if◌then◌else◌}
use Rattle.yv_node_content.specs.declared.kind.NodeKind.{NodeKind}
use Rattle.yv_node_content.specs.declared.kind.NodeKind.TheVariants as kind
use Rattle.yv_node_content.specs.Kinds.{is_list, is_operation_or_notification, is_passed}
use Rattle.yv_nodes.specs.Defaults.{width}
use Rattle.yv_nodes.specs.Tree.{Label, Forest, no_trees, tree, node}
use Rattle.yv_schema_tables.specs.declared.measures.Measures.{Measures}

-- a node is a container
abbrev pub is_container : NodeKind → Bool
is_container kind.Container = true
is_container _ = false

-- the nodes below a node are met where it is: in a choice, a case, or a container without presence
abbrev pub is_open : Label → Bool
is_open l = is_passed l.defined.kind || is_container l.defined.kind && not l.defined.has_presence

-- how many nodes are met at one object, choices and cases too, where a node with several defaults
-- counts as so many: a list and a presence container count, and what is below them doesn't, and
-- operations, notifications and what is in them count nothing
abbrev pub count_met : Forest → ℕ
count_met no_trees = 0
count_met (tree (node l kids) ts) =
    (if is_operation_or_notification l.defined.kind then 0
    else width l + (if is_open l then count_met kids else 0)) + count_met ts

-- the greatest of numbers of the nodes at any depth, but for operations, notifications and what is
-- in them
abbrev pub greatest : (Label → Forest → ℕ) → Forest → ℕ
greatest of no_trees = 0
greatest of (tree (node l kids) ts) =
    max (if is_operation_or_notification l.defined.kind then 0
    else max (of l kids) (greatest of kids)) (greatest of ts)

-- what is met below a container or a list
abbrev pub met_below : Label → Forest → ℕ
met_below l kids =
    if is_container l.defined.kind || is_list l.defined.kind then count_met kids else 0

-- how many `unique` statements a node has
abbrev pub uniques_of : Label → Forest → ℕ
uniques_of l kids = length l.defined.uniques

-- how many types a node has
abbrev pub types_of : Label → Forest → ℕ
types_of l kids = length l.defined.types

-- the most nodes that are met at the root, a container or a list, the most `unique` statements of a
-- list, and the most types of a node, or 1 where there are fewer
abbrev pub measures_of : Forest → Measures
measures_of ts = record {
  m = max (count_met ts) (greatest met_below ts);
  u = greatest uniques_of ts;
  w = max (greatest types_of ts) 1;
}
