-- Only private clauses cite this: what is kept of the nodes above a node.
use Rattle.std.specs.Prelude.{Bool, true, false, List, [], ◌∷◌, Option, Some, None, slice_get}
use Rattle.std.specs.Option.{unwrap_or}
use Rattle.yv_node_content.specs.Kinds.{is_case}
use Rattle.yv_nodes.specs.declared.node.NodeId.{NodeId}
use Rattle.yv_nodes.specs.Tree.{Label}
use Rattle.yv_nodes.specs.Rows.{Row}
use Rattle.yv_nodes.specs.Labels.{in_operation_or_notification}
use Rattle.yv_node_checks.specs.declared.lineage.Ancestry.{Ancestry}
use Rattle.yv_node_checks.specs.Above.{in_keyless}

abbrev pub ancestry_of : List Label → Ancestry
ancestry_of ls = record {
  in_operation = in_operation_or_notification ls;
  in_keyless = in_keyless ls;
}

-- what is kept of the node of a number; of none that of no node
abbrev pub ancestry_at : List Ancestry → NodeId → Ancestry
ancestry_at kept p = unwrap_or (slice_get kept p.0) (ancestry_of [])

abbrev pub label_in : Row → Label
label_in r = r.label

abbrev pub nearest_of : List Label → Option Label
nearest_of [] = None
nearest_of (l ∷ ls) = Some l

-- there is a node, and it is a case
abbrev pub is_some_case : Option Label → Bool
is_some_case None = false
is_some_case (Some l) = is_case l.defined.kind

-- what is below such a node, or at the top, is configuration unless it says otherwise
abbrev pub is_some_config : Option Label → Bool
is_some_config None = true
is_some_config (Some l) = l.is_config
