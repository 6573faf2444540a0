use Rattle.std.proofs.Common.{None, subst}
use Rattle.yv_text_statement.specs.Order.{IsLeast}
use Rattle.yv_link_scopes.specs.declared.rows.Rows.{Rows}
use Rattle.yv_link_scopes.specs.Views.{files_in, rows_in}
use Rattle.yv_link_identities.specs.Refusals.{BadIdentities}
use Rattle.yv_link_identities.proofs.build.identities.Goals as goal

pub returns-clause-clear : goal.returns-clause-clear
returns-clause-clear c = subst (λ (r : Rows). IsLeast (BadIdentities (files_in r) (rows_in r)) None) c.in_ok-draft.ensures c.in-Ok.ensures.clear
