-- The data nodes of a schema, by number (RFC 7950, section 3).
use Rattle.std.specs.Prelude.{ℕ, ◌+◌, List, [], ◌∷◌, if◌then◌else◌}
use Rattle.yv_node_content.specs.Kinds.{is_data}
use Rattle.yv_nodes.specs.declared.node.NodeId.{NodeId}
use Rattle.yv_nodes.specs.Rows.{Row}

-- the numbers of the data nodes among these rows, of which the first has the number `first`
abbrev pub data_nodes_from : (first : ℕ) → List Row → List NodeId
data_nodes_from first [] = []
data_nodes_from first (row ∷ rows) =
    if is_data row.label.defined.kind then record { 0 = first } ∷ data_nodes_from (first + 1) rows
    else data_nodes_from (first + 1) rows
