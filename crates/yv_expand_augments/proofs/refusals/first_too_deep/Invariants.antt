use Rattle.yv_text_statement.specs.Order.{Among, IsLeast}
use Rattle.yv_link_scopes.specs.Views.{rows_in}
use Rattle.yv_expand_augments.specs.Refusals.{IsTooDeep}
use Rattle.yv_expand_augments.proofs.refusals.first_too_deep.Given as goal

abbrev pub invariant-loop-row : goal.invariant-loop-row
invariant-loop-row l = IsLeast (Among l.tree (λ place x. IsTooDeep (rows_in l.rows) l.spots x) l.row-index) l.least
