-- What statements give: kinds of schema nodes, and `uses` (RFC 7950, sections 3, 7.13 and 7.17).
use Rattle.std.specs.Prelude.{Bool, true, false, ◌||◌, ℕ, List, [], ◌∷◌, if◌then◌else◌, Option, Some, None, codes}
use Rattle.yv_expand_statements.specs.declared.statement_kind.StatementKind.{StatementKind}
use Rattle.yv_expand_statements.specs.declared.statement_kind.StatementKind.TheVariants as kind
use Rattle.std.specs.Str.{bytes_eq}

-- a uses isn't a schema node
abbrev pub is_node : StatementKind → Bool
is_node kind.Uses = false
is_node _ = true

-- a statement is a `uses`
abbrev pub is_uses : StatementKind → Bool
is_uses kind.Uses = true
is_uses _ = false

-- a statement is a `choice`
abbrev pub is_choice : StatementKind → Bool
is_choice kind.Choice = true
is_choice _ = false

-- a statement is a `case`
abbrev pub is_case : StatementKind → Bool
is_case kind.Case = true
is_case _ = false

-- an augment adds to a container, list, choice, case, input, output or notification
abbrev pub may_be_target : StatementKind → Bool
may_be_target kind.Container = true
may_be_target kind.List = true
may_be_target kind.Choice = true
may_be_target kind.Case = true
may_be_target kind.Input = true
may_be_target kind.Output = true
may_be_target kind.Notification = true
may_be_target _ = false

-- a container, leaf, leaf-list, list, choice, anydata or anyxml
abbrev pub is_data : StatementKind → Bool
is_data kind.Container = true
is_data kind.Leaf = true
is_data kind.LeafList = true
is_data kind.List = true
is_data kind.Choice = true
is_data kind.Anydata = true
is_data kind.Anyxml = true
is_data _ = false

-- a statement is an `action` or a `notification`
abbrev pub is_action_or_notification : StatementKind → Bool
is_action_or_notification kind.Action = true
is_action_or_notification kind.Notification = true
is_action_or_notification _ = false

-- a statement is the `input` or `output` of an operation
abbrev pub is_part : StatementKind → Bool
is_part kind.Input = true
is_part kind.Output = true
is_part _ = false

-- A node takes what an augment of it may have in its block. A choice takes cases and shorthand
-- nodes; a container or list takes data definitions, actions and notifications; a case, input,
-- output or notification takes data definitions. Other nodes take nothing, but an operation has its
-- input and output.
abbrev pub takes : (node given : StatementKind) → Bool
takes kind.Choice given = is_data given || is_case given
takes kind.Container given = is_data given || (is_uses given || is_action_or_notification given)
takes kind.List given = is_data given || (is_uses given || is_action_or_notification given)
takes kind.Case given = is_data given || is_uses given
takes kind.Input given = is_data given || is_uses given
takes kind.Output given = is_data given || is_uses given
takes kind.Notification given = is_data given || is_uses given
takes kind.Rpc given = is_part given
takes kind.Action given = is_part given
takes _ given = false

-- the keywords of the statements that give nodes, and of `uses`
abbrev pub kinds : List (List ℕ × StatementKind)
kinds =
    (codes "container", kind.Container) ∷ (codes "leaf", kind.Leaf)
    ∷ (codes "leaf-list", kind.LeafList) ∷ (codes "list", kind.List)
    ∷ (codes "choice", kind.Choice) ∷ (codes "case", kind.Case) ∷ (codes "anydata", kind.Anydata)
    ∷ (codes "anyxml", kind.Anyxml)
    ∷ (codes "rpc", kind.Rpc) ∷ (codes "action", kind.Action) ∷ (codes "input", kind.Input)
    ∷ (codes "output", kind.Output)
    ∷ (codes "notification", kind.Notification) ∷ (codes "uses", kind.Uses) ∷ []

-- the kind under a keyword in a table
abbrev pub kind_in : List (List ℕ × StatementKind) → List ℕ → Option StatementKind
kind_in [] word = None
kind_in (w ∷ ws) word = if bytes_eq w.0 word then Some w.1 else kind_in ws word

-- the kind of the items that statements of a keyword give; others give none
unfoldable pub kind_of_keyword : List ℕ → Option StatementKind
kind_of_keyword word = kind_in kinds word

-- a statement is a `container`
abbrev pub is_container : StatementKind → Bool
is_container kind.Container = true
is_container _ = false

-- a statement is an `rpc`, an `action` or a `notification`
abbrev pub is_operation_or_notification : StatementKind → Bool
is_operation_or_notification kind.Rpc = true
is_operation_or_notification kind.Action = true
is_operation_or_notification kind.Notification = true
is_operation_or_notification _ = false
