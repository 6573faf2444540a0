use Rattle.std.proofs.Common.{◌≡◌, drop}
use Rattle.std.specs.List.{list_any}
use Rattle.yv_text_statement.specs.Tree.{trees}
use Rattle.yv_lint.specs.Statements.{has_keyword}
use Rattle.yv_lint.proofs.statements.has_child.Given as goal

abbrev pub invariant-loop-one : goal.invariant-loop-one
invariant-loop-one l = list_any (has_keyword l.keyword) (drop l.one-index (trees l.statement.children)) ≡ list_any (has_keyword l.keyword) (trees l.statement.children)
