use Rattle.std.proofs.Common.{◌≡◌, ◌≤◌, Some, length, sym, ◌∙◌, arith}
use Rattle.yv_link_scopes.specs.Rows.{row}
use Rattle.yv_link_scopes.specs.Views.{lent_in, files_in, rows_in}
use Rattle.yv_expand_statements.specs.Units.{units_of}
use Rattle.yv_expand.proofs.UnitWords.{rows_count}
use Rattle.yv_expand.proofs.UsedGrouping.{used_none, used_past, used_some}
use Rattle.yv_expand.proofs.steps.grouping_of.Goals as goal

pub returns-in_err-meant-clause-uses : goal.returns-in_err-meant-clause-uses
returns-in_err-meant-clause-uses c = λ h. used_none (files_in c.args.rows.now) (rows_in c.args.rows.now) c.args.number c.meaning.result _ (c.meaning.ensures (lent_in c.args.rows.now) h) c.in_err-meant.was c.from_residual-in_err-meant.ensures

pub returns-then-meant-entries-clause-uses : goal.returns-then-meant-entries-clause-uses
returns-then-meant-entries-clause-uses c = λ h.
    let units : units_of (row c.args.entry.now).head.keyword ≡ Some c.in_ok-own_units.field-0 = sym c.own_units.ensures ∙ c.in_ok-own_units.was in
    used_some (files_in c.args.rows.now) (rows_in c.args.rows.now) c.args.number (row c.args.entry.now) _ c.in_ok-meant.meant c.meaning.result c.requires units (c.meaning.ensures (lent_in c.args.rows.now) h) c.in_ok-meant.was

pub returns-else-meant-entries-clause-uses : goal.returns-else-meant-entries-clause-uses
returns-else-meant-entries-clause-uses c = λ h.
    let past : length (rows_in c.args.rows.now) ≤ c.in_ok-meant.meant = omega (arith, rows_count row _ (rows_in c.args.rows.now) c.entries.ensures, c.if-meant-entries.false) in
    used_past (files_in c.args.rows.now) (rows_in c.args.rows.now) c.args.number c.in_ok-meant.meant c.meaning.result (c.meaning.ensures (lent_in c.args.rows.now) h) c.in_ok-meant.was past
