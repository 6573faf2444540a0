use Rattle.yv_link_scopes.specs.Views.{lent_in, files_in, rows_in}
use Rattle.yv_expand.specs.InnerSteps.{AreSettled}
use Rattle.yv_expand.proofs.FileLimits.{Limiting}
use Rattle.yv_expand.proofs.limit.first_past.Given as goal

abbrev pub invariant-loop-number : goal.invariant-loop-number
invariant-loop-number l = Limiting (AreSettled (files_in l.rows) (rows_in l.rows) l.values) (lent_in l.rows) l.given l.limit l.number l.total l.least
