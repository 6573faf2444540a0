use Rattle.yv_text_statement.specs.Order.{Among, IsLeast}
use Rattle.yv_link_scopes.specs.Views.{rows_in}
use Rattle.yv_expand_augments.specs.Placement.{IsMisplaced}
use Rattle.yv_expand_augments.proofs.placement.first_misplaced.Given as goal

abbrev pub invariant-loop-row : goal.invariant-loop-row
invariant-loop-row l = IsLeast (Among l.tree (λ place x. IsMisplaced (rows_in l.rows) l.spots x) l.row-index) l.least
