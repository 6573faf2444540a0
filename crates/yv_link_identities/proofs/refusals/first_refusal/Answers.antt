use Rattle.std.proofs.Common.{◌≡◌, ◌≤◌, List, Some, length, sym, ◌∙◌, arith}
use Rattle.std.specs.List.{slice_get}
use Rattle.yv_text_statement.proofs.Least.{least_more}
use Rattle.yv_link_scopes.specs.Files.{Briefs}
use Rattle.yv_link_scopes.specs.Rows.{Row, row}
use Rattle.yv_link_scopes.specs.Views.{files_in, rows_in}
use Rattle.yv_link_identities.specs.Refusals.{BadRow}
use Rattle.yv_link_identities.proofs.Faulty.{least_all, least_stays}
use Rattle.yv_link_identities.proofs.Numbering.{row_read, rows_count}
use Rattle.yv_link_identities.proofs.refusals.first_refusal.Goals as goal
use Rattle.yv_link_identities.proofs.refusals.first_refusal.Goals.{then-is_some, else-is_some}

pub loop-number-preserved : goal.loop-number-preserved
loop-number-preserved c =
    let files : Briefs = files_in c.args.draft.now.rows.now in
    let rows : List Row = rows_in c.args.draft.now.rows.now in
    let r : Row = row c.entry-item.result in
    let at : slice_get rows c.loop-number.number ≡ Some r = row_read row _ rows c.loop-number.number c.entry-item.result c.entries-entry-items.ensures c.loop-number-test.true c.entry-item.is in
    elim c.if-is_some.branch [
      | then-is_some w ↦ rw w.least-is (least_more rows (BadRow files rows) c.loop-number.number r _ _ _ at w.lesser-least.ensures c.loop-number.invariant c.row_refusal-fault.ensures)
      | else-is_some w ↦ rw w.least-is (least_stays rows (BadRow files rows) c.loop-number.number r _ c.row_refusal-fault.result at c.loop-number.invariant (sym c.is_some.ensures ∙ w.if-is_some.false) c.row_refusal-fault.ensures)
    ]

pub returns : goal.returns
returns c =
    let files : Briefs = files_in c.args.draft.now.rows.now in
    let rows : List Row = rows_in c.args.draft.now.rows.now in
    let past : length rows ≤ c.loop-number.number = omega (arith, rows_count row _ rows c.entries-entry-items.ensures, c.loop-number-test.false) in
    least_all rows (BadRow files rows) c.loop-number.number c.loop-number.least past c.loop-number.invariant
