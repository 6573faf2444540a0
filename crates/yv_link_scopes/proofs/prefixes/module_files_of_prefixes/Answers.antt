use Rattle.std.proofs.Common.{◌≡◌, List, Some}
use Rattle.std.specs.List.{slice_get}
use Rattle.yv_link_scopes.specs.Rows.{Row, row}
use Rattle.yv_link_scopes.specs.Views.{files_in, rows_in}
use Rattle.yv_link_scopes.specs.InnerModuleFiles.{module_file_of_prefix}
use Rattle.yv_link_scopes.proofs.MappedLists.{row_read, mapped_more}
use Rattle.yv_link_scopes.proofs.prefixes.module_files_of_prefixes.Goals as goal

pub loop-entry-preserved : goal.loop-entry-preserved
loop-entry-preserved c =
    let rows : List Row = rows_in c.args.rows.now in
    let r : Row = row c.entry-item.result in
    let at : slice_get rows c.loop-entry.entry-index ≡ Some r = row_read row _ rows c.loop-entry.entry-index c.entry-item.result c.entries-entry-items.ensures c.loop-entry-test.true c.entry-item.is in
    mapped_more (module_file_of_prefix (files_in c.args.rows.now) rows) rows c.loop-entry.entry-index r c.module_file_of_prefix.result c.loop-entry.module_files.items c.push.new.self.items at c.module_file_of_prefix.ensures c.in_ok-push.ensures.items c.loop-entry.invariant
