-- Only private clauses cite this: what statements give, by their keywords.
use Rattle.std.specs.Prelude.{Option, None, Some}
use Rattle.yv_text_statement.specs.declared.keyword.Keyword.{Keyword}
use Rattle.yv_text_statement.specs.declared.keyword.Keyword.TheVariants as word
use Rattle.yv_expand_statements.specs.declared.statement_kind.StatementKind.{StatementKind}
use Rattle.yv_expand_statements.specs.declared.statement_kind.StatementKind.TheVariants as kind

-- the kind of the items that statements of a keyword give; others give none
abbrev pub kind_by : Keyword → Option StatementKind
kind_by word.Container = Some kind.Container
kind_by word.Leaf = Some kind.Leaf
kind_by word.LeafList = Some kind.LeafList
kind_by word.List = Some kind.List
kind_by word.Choice = Some kind.Choice
kind_by word.Case = Some kind.Case
kind_by word.Anydata = Some kind.Anydata
kind_by word.Anyxml = Some kind.Anyxml
kind_by word.Rpc = Some kind.Rpc
kind_by word.Action = Some kind.Action
kind_by word.Input = Some kind.Input
kind_by word.Output = Some kind.Output
kind_by word.Notification = Some kind.Notification
kind_by word.Uses = Some kind.Uses
kind_by _ = None
