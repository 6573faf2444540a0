-- The steps of a validation: one for each member that is looked up, for each node that is met at an
-- object, or one for each default of it where it has more, for each type that is tried, for each
-- tuple that is looked up among those before it, and for each value of a leafref that is looked up
-- among those of its target.
use Rattle.std.specs.Prelude.{ℕ, ◌+◌, List, [], ◌∷◌, Option, Some, None}
use Rattle.std.specs.List.{sum_by}
use Rattle.serde_json.specs.Data.{Data, object}
use Rattle.yv_text_statement.specs.declared.document_kind.Kind.{Kind}
use Rattle.yv_values.specs.Reads.{types_tried}
use Rattle.yv_values.specs.Values.{Val}
use Rattle.yv_nodes.specs.declared.node.NodeId.{NodeId}
use Rattle.yv_nodes.specs.Defaults.{width}
use Rattle.yv_nodes.specs.Link.{link_in}
use Rattle.yv_nodes.specs.Rows.{Rows}
use Rattle.yv_nodes.specs.Tree.{Label}
use Rattle.yv_walk.specs.Context.{members_len}
use Rattle.yv_data_leafrefs.specs.Meetings.{all_met, Meeting, stand, at_value, at_end, at_node}
use Rattle.yv_data_leafrefs.specs.References.{lookups_at}
use Rattle.yv_validate.specs.Faults.{item_tuple, Leafs, leafs_of, tuple_at}

-- the steps for the members of an object
abbrev pub object_work : Data → ℕ
object_work (object ms) = members_len ms
object_work _ = 0

-- one, where there is a tuple
abbrev pub tuple_work : Option (List Val) → ℕ
tuple_work None = 0
tuple_work (Some vs) = 1

-- an item of a leaf-list of configuration is looked up among those before it
abbrev pub item_work : Label → Option (List Data) → Data → ℕ
item_work l None d = 0
item_work l (Some before) d = tuple_work (item_tuple l d)

-- the types that are tried for a value
abbrev pub value_work : Label → Data → ℕ
value_work l d = types_tried l.defined.types l.module_name d

-- the steps for the `unique` statements of a list entry
abbrev pub uniques_work : (List (Option NodeId) → Data → Option (List Val))
    → List (List (Option NodeId)) → Data → ℕ
uniques_work tuple [] d = 0
uniques_work tuple (leafs ∷ rest) d = tuple_work (tuple leafs d) + uniques_work tuple rest d

-- the steps for the key and the `unique` statements of a list entry
abbrev pub end_work : Leafs → (List (Option NodeId) → Data → Option (List Val)) → Data → ℕ
end_work leafs tuple d = tuple_work (tuple leafs.keys d) + uniques_work tuple leafs.uniques d

-- the steps for what is met
abbrev pub work_at : Kind → Rows → Meeting → ℕ
work_at k s (stand m) = object_work m.found
work_at k s (at_value m) = value_work m.label m.found + item_work m.label m.before m.found
work_at k s (at_end m) = end_work (leafs_of s m.node m.label) (tuple_at k s m) m.found
work_at k s (at_node m) = width m.label

-- the steps of a whole document
abbrev pub work : Kind → Rows → Data → ℕ
work k s d = sum_by (λ m. work_at k s m + lookups_at (link_in s.links) m) (all_met k s d)
