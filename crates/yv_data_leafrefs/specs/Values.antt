-- The values that leafs and leaf-lists have in a document: those that were read, and defaults in
-- use (RFC 7950, sections 7.6.1 and 7.7.2).
use Rattle.std.specs.Prelude.{ℕ, List, [], map}
use Rattle.std.specs.List.{flat_map}
use Rattle.yv_node_content.specs.declared.kind.NodeKind.{NodeKind}
use Rattle.yv_values.specs.Values.{Val}
use Rattle.yv_nodes.specs.Tree.{Label}
use Rattle.yv_nodes.specs.declared.node.NodeId.{NodeId}
use Rattle.yv_data_leafrefs.specs.InUse.{in_use, some_value, value_of}
use Rattle.yv_data_leafrefs.specs.Meetings.{found_of, Meeting, at_value, at_node, Spot}

-- a value that a leaf or leaf-list has, and where it has it
pub record ValueAt : Type 0 where
  pub node : ℕ
  pub kind : NodeKind
  pub value : Val
  pub spot : Spot

-- these values, as those of a node at a place
abbrev pub values_of_node : NodeId → Label → Spot → List Val → List ValueAt
values_of_node n l spot vs =
    map (λ v. record { node = n.0; kind = l.defined.kind; value = v; spot = spot }) vs

-- the values that are met, written or by default
abbrev pub values_at : Meeting → List ValueAt
values_at (at_value m) =
    values_of_node m.node m.label m.spot (some_value (value_of m.label m.found))
values_at (at_node m) =
    values_of_node m.node m.label m.spot (in_use m.label.defined.kind m.label m.scope (found_of m))
values_at _ = []

-- all values
abbrev pub values_in : List Meeting → List ValueAt
values_in ms = flat_map values_at ms
