use Rattle.std.proofs.Common.{length, sym, subst}
use Rattle.yv_text_statement.specs.Order.{IsLeast}
use Rattle.yv_text_statement.proofs.Least.{least_lesser}
use Rattle.yv_link_scopes.specs.declared.rows.Rows.{Rows}
use Rattle.yv_link_scopes.specs.Views.{files_in, rows_in}
use Rattle.yv_link_modules.specs.Modules.{BadModules}
use Rattle.yv_link_modules.specs.InnerDates.{AreGreatest}
use Rattle.yv_link_modules.specs.InnerImports.{AreLeads}
use Rattle.yv_link_modules.proofs.first.first_bad.Goals as goal

pub first_row-others-requires-clause-dates : goal.first_row-others-requires-clause-dates
first_row-others-requires-clause-dates c = subst (λ (r : Rows). AreGreatest (length (files_in r)) (rows_in r) c.in_ok-tables.tables.dates.items) (sym c.in_ok-tables.ensures.rows) c.in_ok-tables.ensures.dates

pub first_row-others-requires-clause-leads : goal.first_row-others-requires-clause-leads
first_row-others-requires-clause-leads c = subst (λ (r : Rows). AreLeads (files_in r) (rows_in r) c.in_ok-tables.tables.leads.items) (sym c.in_ok-tables.ensures.rows) c.in_ok-tables.ensures.leads

pub returns : goal.returns
returns c =
    subst (λ (r : Rows). IsLeast (BadModules (files_in r) (rows_in r)) c.lesser.result) c.in_ok-tables.ensures.rows
    (least_lesser _ _ _ _ _ c.lesser.ensures c.first_file-roots.ensures c.first_row-others.ensures)
