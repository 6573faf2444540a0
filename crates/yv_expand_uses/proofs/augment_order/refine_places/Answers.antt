use Rattle.std.proofs.Common.{◌≡◌, List, Some, None, if◌then◌else◌, arith}
use Rattle.std.specs.List.{slice_get}
use Rattle.yv_link_scopes.specs.Rows.{Row, row}
use Rattle.yv_link_scopes.specs.Views.{rows_in}
use Rattle.yv_expand_statements.specs.StatementBlocks.{is_refine}
use Rattle.yv_expand_uses.proofs.StatementLists.{mapped_all, mapped_more, row_read, rows_count}
use Rattle.yv_expand_uses.proofs.augment_order.refine_places.Goals as goal

pub loop-entry-preserved : goal.loop-entry-preserved
loop-entry-preserved c =
    let rows : List Row = rows_in c.args.rows.now in
    let r : Row = row c.entry-item.result in
    let at : slice_get rows c.loop-entry.entry-index ≡ Some r = row_read row _ rows c.loop-entry.entry-index c.entry-item.result c.entries-entry-items.ensures c.loop-entry-test.true c.entry-item.is in
    mapped_more (λ (x : Row). if is_refine x then Some x.scope else None) rows c.loop-entry.entry-index r c.refine_place.result c.loop-entry.places.items c.push.new.self.items at c.refine_place.ensures c.in_ok-push.ensures.items c.loop-entry.invariant

pub returns : goal.returns
returns c = mapped_all _ (rows_in c.args.rows.now) c.loop-entry.entry-index _ (omega (arith, rows_count row _ (rows_in c.args.rows.now) c.entries-entry-items.ensures, c.loop-entry-test.false)) c.loop-entry.invariant
