use Rattle.std.proofs.Common.{◌≤◌, List, length, ap, arith}
use Rattle.std.proofs.lemmas.List.{length-map}
use Rattle.yv_text_statement.proofs.Least.{least_more}
use Rattle.yv_link_scopes.specs.Files.{Briefs, brief}
use Rattle.yv_link_scopes.specs.Rows.{Row}
use Rattle.yv_link_scopes.specs.Views.{files_in, rows_in}
use Rattle.yv_link_modules.specs.Modules.{BadFile}
use Rattle.yv_link_modules.proofs.Flags.{get_view, least_all}
use Rattle.yv_link_modules.proofs.first.Tables.first_file.Goals as goal

pub loop-number-preserved : goal.loop-number-preserved
loop-number-preserved c =
    let files : Briefs = files_in c.args.self.now.rows.now in
    let rows : List Row = rows_in c.args.self.now.rows.now in
    least_more files (BadFile files rows) c.loop-number.number (brief c.file-item.result) _ _ _
    (get_view brief c.files-file-items.result.now files c.loop-number.number c.file-item.result c.files-file-items.ensures.each c.loop-number-test.true c.file-item.is)
    c.lesser-least.ensures c.loop-number.invariant c.file_refusal-fault.ensures

pub returns : goal.returns
returns c =
    let files : Briefs = files_in c.args.self.now.rows.now in
    let rows : List Row = rows_in c.args.self.now.rows.now in
    let past : length files ≤ c.loop-number.number = omega (arith, ap length c.files-file-items.ensures.each, length-map c.files-file-items.result.now brief, c.loop-number-test.false) in
    least_all files (BadFile files rows) c.loop-number.number c.loop-number.least past c.loop-number.invariant
