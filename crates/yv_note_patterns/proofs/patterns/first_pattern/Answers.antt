use Rattle.std.proofs.Common.{◌≡◌, List, Some}
use Rattle.std.specs.List.{slice_get}
use Rattle.yv_link_scopes.specs.Rows.{Row, row}
use Rattle.yv_link_scopes.specs.Views.{rows_in}
use Rattle.yv_note_patterns.proofs.NoPattern.{get_view, none_more}
use Rattle.yv_note_patterns.proofs.patterns.first_pattern.Goals as goal

pub loop-entry-preserved : goal.loop-entry-preserved
loop-entry-preserved c =
    let rows : List Row = rows_in c.args.rows.now in
    let at : slice_get rows c.loop-entry.entry-index ≡ Some (row c.entry-item.result) = get_view row c.entries-entry-items.result.now rows c.loop-entry.entry-index c.entry-item.result c.entries-entry-items.ensures c.loop-entry-test.true c.entry-item.is in
    none_more rows c.loop-entry.entry-index (row c.entry-item.result) at (c.in_ok-is_pattern.ensures.not c.if-branch.false) c.loop-entry.invariant
