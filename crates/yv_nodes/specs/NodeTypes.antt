-- Nodes whose values have other types than their statements say (RFC 7950, section 9.9: a leafref
-- has its target's).
use Rattle.std.specs.Prelude.{ℕ, ◌+◌, List, [], ◌∷◌}
use Rattle.std.specs.List.{slice_index_or}
use Rattle.yv_values.specs.Types.{Plain}
use Rattle.yv_node_content.specs.Definition.{with_types}
use Rattle.yv_nodes.specs.declared.node.NodeId.{NodeId}
use Rattle.yv_nodes.specs.Rows.{Row, blank_row, root}
use Rattle.yv_nodes.specs.Tree.{count, Forest, Label, no_trees, node, tree}

-- what is known of a node, with other types
abbrev pub label_with_types : List Plain → Label → Label
label_with_types types l = record {
  defined = with_types types l.defined;
  module_file = l.module_file;
  module_name = l.module_name;
  member = l.member;
  is_config = l.is_config;
  is_key = l.is_key;
  is_input = l.is_input;
}

-- a row with other types
abbrev pub typed_row : List Plain → Row → Row
typed_row types r =
    record { label = label_with_types types r.label; parent = r.parent; children = r.children }

-- rows with the types that are known of their numbers, the first of which is `first`
abbrev pub typed_rows : (types : ℕ → List Plain) → (first : ℕ) → List Row → List Row
typed_rows types first [] = []
typed_rows types first (r ∷ rs) = typed_row (types first) r ∷ typed_rows types (first + 1) rs

-- trees whose nodes have the types that are known of their numbers, the first of which is `first`
abbrev pub typed_from : (types : ℕ → List Plain) → (first : ℕ) → Forest → Forest
typed_from types first no_trees = no_trees
typed_from types first (tree (node l kids) ts) =
    tree (node (label_with_types (types first) l) (typed_from types (first + 1) kids))
    (typed_from types (first + 1 + count kids) ts)

-- the types that the row of a number has by itself
abbrev pub types_at : List Row → ℕ → List Plain
types_at rows n = (slice_index_or rows n blank_row).label.defined.types

-- for each number the types that the row has to which these lead
abbrev pub types_from : List Row → (origins : List NodeId) → ℕ → List Plain
types_from rows origins n = types_at rows (slice_index_or origins n root).0
