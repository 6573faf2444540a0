-- Nodes of which the same is said, as copies of one statement's node.
use Rattle.std.specs.Prelude.{ℕ, List, []}
use Rattle.std.specs.List.{slice_index_or}
use Rattle.yv_node_content.specs.Definition.{Definition, with_types}
use Rattle.yv_nodes.specs.Rows.{Row, blank_row}

-- what is said of the node of a number, but for its types, which may be those of another node
abbrev pub without_types : Row → Definition
without_types row = with_types [] row.label.defined

-- what is said of the numbered node, but for its types
abbrev pub untyped_at : List Row → ℕ → Definition
untyped_at rows n = without_types (slice_index_or rows n blank_row)
