use Rattle.std.proofs.Common.{◌≡◌, Some, arith}
use Rattle.std.specs.List.{slice_get}
use Rattle.yv_link_scopes.specs.Rows.{row}
use Rattle.yv_link_scopes.specs.Views.{lent_in, rows_in, trees_in}
use Rattle.yv_link.specs.LinkedFiles.{truth_in}
use Rattle.yv_expand_changes.proofs.StatementReadings.{marks_all, marks_more, row_read, rows_count}
use Rattle.yv_expand_changes.proofs.if_features.statement_marks.Goals as goal

pub loop-number-preserved : goal.loop-number-preserved
loop-number-preserved c =
    let entries = c.entries-entry-items.result.now in
    let rows = rows_in c.args.rows.now in
    let n = c.loop-number.number in
    let at : slice_get rows n ≡ Some (row c.entry-item.result) = row_read row entries rows n c.entry-item.result c.entries-entry-items.ensures c.loop-number-test.true c.entry-item.is in
    marks_more (truth_in c.args.linked.now) rows (trees_in c.args.rows.now) (c.statements_have_their_rows.ensures (lent_in c.args.rows.now)) n (row c.entry-item.result) c.is_statement_on.result
    c.loop-number.marks.items c.push.new.self.items at c.is_statement_on.ensures c.in_ok-push.ensures.items c.loop-number.invariant

pub returns : goal.returns
returns c =
    let rows = rows_in c.args.rows.now in
    marks_all (truth_in c.args.linked.now) rows (trees_in c.args.rows.now) (c.statements_have_their_rows.ensures (lent_in c.args.rows.now)) c.loop-number.number c.loop-number.marks.items
    (omega (arith, c.loop-number-test.false, rows_count row c.entries-entry-items.result.now rows c.entries-entry-items.ensures)) c.loop-number.invariant
