use Rattle.std.proofs.Common.{◌≡◌, ◌≤◌, List, Some, length, sym, ◌∙◌, ap, arith}
use Rattle.std.specs.List.{slice_get}
use Rattle.std.proofs.lemmas.List.{length-map}
use Rattle.yv_text_statement.proofs.Least.{least_more}
use Rattle.yv_link_scopes.specs.Files.{Briefs}
use Rattle.yv_link_scopes.specs.Rows.{Row, row}
use Rattle.yv_link_scopes.specs.Views.{files_in, rows_in}
use Rattle.yv_link_modules.specs.Modules.{BadRow}
use Rattle.yv_link_modules.proofs.Flags.{get_view, least_all, least_stays}
use Rattle.yv_link_modules.proofs.first.Tables.first_row.Goals as goal
use Rattle.yv_link_modules.proofs.first.Tables.first_row.Goals.{then-is_some, else-is_some}

pub loop-number-preserved : goal.loop-number-preserved
loop-number-preserved c =
    let files : Briefs = files_in c.args.self.now.rows.now in
    let rows : List Row = rows_in c.args.self.now.rows.now in
    let r : Row = row c.entry-item.result in
    let at : slice_get rows c.loop-number.number ≡ Some r = get_view row c.entries-entry-items.result.now rows c.loop-number.number c.entry-item.result c.entries-entry-items.ensures c.loop-number-test.true c.entry-item.is in
    elim c.if-is_some.branch [
      | then-is_some w ↦ rw w.least-is (least_more rows (BadRow files rows) c.loop-number.number r _ _ _ at w.lesser-least.ensures c.loop-number.invariant c.row_refusal-fault.ensures)
      | else-is_some w ↦ rw w.least-is (least_stays rows (BadRow files rows) c.loop-number.number r _ c.row_refusal-fault.result at c.loop-number.invariant (sym c.is_some.ensures ∙ w.if-is_some.false) c.row_refusal-fault.ensures)
    ]

pub returns : goal.returns
returns c =
    let files : Briefs = files_in c.args.self.now.rows.now in
    let rows : List Row = rows_in c.args.self.now.rows.now in
    let past : length rows ≤ c.loop-number.number = omega (arith, ap length c.entries-entry-items.ensures, length-map c.entries-entry-items.result.now row, c.loop-number-test.false) in
    least_all rows (BadRow files rows) c.loop-number.number c.loop-number.least past c.loop-number.invariant
