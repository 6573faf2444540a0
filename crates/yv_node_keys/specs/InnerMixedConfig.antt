-- Only private clauses cite this: statements that are bad, by the numbers of their leafs.
use Rattle.std.specs.Prelude.{Bool, true, false, not, ◌&&◌, ◌||◌, List, Option, Some, None, is_some, slice_get, if◌then◌else◌}
use Rattle.std.specs.List.{list_any}
use Rattle.yv_nodes.specs.declared.node.NodeId.{NodeId}
use Rattle.yv_nodes.specs.Rows.{Row}
use Rattle.yv_node_content.specs.Steps.{Step}
use Rattle.yv_node_keys.specs.Numbers.{unique_leaf_at}

abbrev pub is_some_config : (wanted : Bool) → Option Row → Bool
is_some_config wanted None = false
is_some_config wanted (Some r) = if wanted then r.label.is_config else not r.label.is_config

-- the numbered node is configuration, or is none, as wanted
abbrev pub is_config_at : List Row → (wanted : Bool) → NodeId → Bool
is_config_at rows wanted n = is_some_config wanted (slice_get rows n.0)

abbrev pub is_config_of : List Row → (wanted : Bool) → Option NodeId → Bool
is_config_of rows wanted None = false
is_config_of rows wanted (Some n) = is_config_at rows wanted n

-- there are both among these nodes
abbrev pub is_mixed_at : List Row → List NodeId → Bool
is_mixed_at rows ns = list_any (is_config_at rows true) ns && list_any (is_config_at rows false) ns

abbrev pub is_bad_statement_at : List Row → (list : NodeId) → List (List (Option Step)) → Bool
is_bad_statement_at rows list paths =
    list_any (λ path. not (is_some (unique_leaf_at rows list path))) paths
    || (list_any (λ path. is_config_of rows true (unique_leaf_at rows list path)) paths
    && list_any (λ path. is_config_of rows false (unique_leaf_at rows list path)) paths)
