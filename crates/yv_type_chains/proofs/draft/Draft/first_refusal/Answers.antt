use Rattle.std.proofs.Common.{◌≤◌, List, length, arith}
use Rattle.yv_text_statement.proofs.Least.{least_more}
use Rattle.yv_link_scopes.specs.Files.{Briefs}
use Rattle.yv_link_scopes.specs.Rows.{Row, row}
use Rattle.yv_link_scopes.specs.Views.{files_in, rows_in}
use Rattle.yv_type_chains.specs.Refusals.{BadRow}
use Rattle.yv_type_chains.proofs.TypeFaults.{least_all}
use Rattle.yv_type_chains.proofs.Words.{row_read, rows_count}
use Rattle.yv_type_chains.proofs.draft.Draft.first_refusal.Goals as goal

pub loop-number-preserved : goal.loop-number-preserved
loop-number-preserved c = λ found.
    let files : Briefs = files_in c.args.self.now.rows.now in
    let rows : List Row = rows_in c.args.self.now.rows.now in
    least_more rows (BadRow files rows) c.loop-number.number (row c.entry-item.result) _ _ _
    (row_read row _ rows c.loop-number.number c.entry-item.result c.entries-entry-items.ensures c.loop-number-test.true c.entry-item.is)
    c.lesser-least.ensures (c.loop-number.invariant found) (c.row_refusal-fault.ensures found)

pub returns : goal.returns
returns c = λ found.
    let files : Briefs = files_in c.args.self.now.rows.now in
    let rows : List Row = rows_in c.args.self.now.rows.now in
    let past : length rows ≤ c.loop-number.number = omega (arith, rows_count row _ rows c.entries-entry-items.ensures, c.loop-number-test.false) in
    least_all rows (BadRow files rows) c.loop-number.number c.loop-number.least past (c.loop-number.invariant found)
