-- What schema nodes are (RFC 7950, section 1).
use Rattle.std.specs.Prelude.{Bool, true, false}
use Rattle.yv_node_content.specs.declared.kind.NodeKind.{NodeKind}
use Rattle.yv_node_content.specs.declared.kind.NodeKind.TheVariants as kind

-- an rpc, an action or a notification
abbrev pub is_operation_or_notification : NodeKind → Bool
is_operation_or_notification kind.Rpc = true
is_operation_or_notification kind.Action = true
is_operation_or_notification kind.Notification = true
is_operation_or_notification _ = false

-- a choice or a case: no data tree has such a node
abbrev pub is_passed : NodeKind → Bool
is_passed kind.Choice = true
is_passed kind.Case = true
is_passed _ = false

-- a node that a data tree may have
abbrev pub is_data : NodeKind → Bool
is_data kind.Container = true
is_data kind.Leaf = true
is_data kind.LeafList = true
is_data kind.List = true
is_data kind.Anydata = true
is_data kind.Anyxml = true
is_data _ = false

-- a leaf or a leaf-list: a node that has values
abbrev pub has_values : NodeKind → Bool
has_values kind.Leaf = true
has_values kind.LeafList = true
has_values _ = false

-- a node is a list
abbrev pub is_list : NodeKind → Bool
is_list kind.List = true
is_list _ = false

-- a node is a leaf
abbrev pub is_leaf : NodeKind → Bool
is_leaf kind.Leaf = true
is_leaf _ = false

-- a node is a choice
abbrev pub is_choice : NodeKind → Bool
is_choice kind.Choice = true
is_choice _ = false

-- a node is a case
abbrev pub is_case : NodeKind → Bool
is_case kind.Case = true
is_case _ = false

-- the input of an rpc or action
abbrev pub is_input : NodeKind → Bool
is_input kind.Input = true
is_input _ = false
