use Rattle.yv_link_scopes.specs.Views.{lent_in, files_in, rows_in}
use Rattle.yv_link_definitions.specs.Meanings.{AreNames}
use Rattle.yv_expand.proofs.StepTable.{Stepping}
use Rattle.yv_expand.proofs.steps.steps.Given as goal

abbrev pub invariant-loop-number : goal.invariant-loop-number
invariant-loop-number l = Stepping (AreNames (lent_in l.rows) l.names) (files_in l.rows) (rows_in l.rows) l.number l.steps.items
