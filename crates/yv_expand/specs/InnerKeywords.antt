-- Only private clauses cite this: the keywords of statements that count.
use Rattle.std.specs.Prelude.{ℕ, Bool, true, false, ◌||◌, Option, None, Some, if◌then◌else◌}
use Rattle.yv_text_statement.specs.declared.keyword.Keyword.{Keyword}
use Rattle.yv_text_statement.specs.declared.keyword.Keyword.TheVariants as word

-- a statement of this keyword gives a schema node, but for operations, or is a uses
abbrev pub is_node_keyword : Keyword → Bool
is_node_keyword word.Container = true
is_node_keyword word.Leaf = true
is_node_keyword word.LeafList = true
is_node_keyword word.List = true
is_node_keyword word.Choice = true
is_node_keyword word.Case = true
is_node_keyword word.Anydata = true
is_node_keyword word.Anyxml = true
is_node_keyword word.Notification = true
is_node_keyword word.Uses = true
is_node_keyword _ = false

-- it is an operation
abbrev pub is_operation_keyword : Keyword → Bool
is_operation_keyword word.Rpc = true
is_operation_keyword word.Action = true
is_operation_keyword _ = false

-- it is an item
abbrev pub is_item_keyword : Keyword → Bool
is_item_keyword keyword = is_node_keyword keyword || is_operation_keyword keyword

-- what is in it counts, but not the statement
abbrev pub is_passed_keyword : Keyword → Bool
is_passed_keyword word.Input = true
is_passed_keyword word.Output = true
is_passed_keyword word.Augment = true
is_passed_keyword _ = false

-- what it counts by itself
abbrev pub units_by : Keyword → Option ℕ
units_by keyword =
    if is_node_keyword keyword then Some 1
    else if is_operation_keyword keyword then Some 3
    else if is_passed_keyword keyword then Some 0
    else None
