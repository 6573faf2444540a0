use Rattle.std.proofs.Common.{◌≡◌, ◌≤◌, List, length, Some, arith}
use Rattle.std.specs.List.{slice_get}
use Rattle.yv_link_scopes.specs.Rows.{Row, row}
use Rattle.yv_link_scopes.specs.Views.{files_in, rows_in}
use Rattle.yv_type_chains.proofs.Words.{row_read, rows_count}
use Rattle.yv_types.proofs.PrefixScopes.{scopes_all, scopes_bare, scopes_more}
use Rattle.yv_types.proofs.scopes.scopes_of.Goals as goal

pub loop-entry-init : goal.loop-entry-init
loop-entry-init c = scopes_bare (files_in c.args.rows.now) (rows_in c.args.rows.now) c.in_ok-scopes.scopes.items c.in_ok-scopes.ensures

pub loop-entry-preserved : goal.loop-entry-preserved
loop-entry-preserved c =
    let rows : List Row = rows_in c.args.rows.now in
    let at : slice_get rows c.loop-entry.entry-index ≡ Some (row c.entry-item.result) = row_read row _ rows c.loop-entry.entry-index c.entry-item.result c.entries-entry-items.ensures c.loop-entry-test.true c.entry-item.is in
    scopes_more (files_in c.args.rows.now) rows c.loop-entry.entry-index (row c.entry-item.result) c.loop-entry.scopes.items c.declare.new.scopes.items at c.in_ok-declare.ensures c.loop-entry.invariant

pub returns : goal.returns
returns c =
    let rows : List Row = rows_in c.args.rows.now in
    let past : length rows ≤ c.loop-entry.entry-index = omega (arith, rows_count row _ rows c.entries-entry-items.ensures, c.loop-entry-test.false) in
    record { each = scopes_all (files_in c.args.rows.now) rows c.loop-entry.entry-index c.loop-entry.scopes.items past c.loop-entry.invariant }
