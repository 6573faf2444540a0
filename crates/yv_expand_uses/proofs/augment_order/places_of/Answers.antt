use Rattle.std.proofs.Common.{◌≡◌, List, Some, arith}
use Rattle.std.specs.List.{slice_get}
use Rattle.std.proofs.lemmas.Option.{slice_get_within}
use Rattle.yv_link_scopes.specs.Rows.{Row, row}
use Rattle.yv_link_scopes.specs.Views.{rows_in}
use Rattle.yv_expand_uses.proofs.StatementLists.{row_read, rows_count}
use Rattle.yv_expand_uses.proofs.PlaceNumbers.{giving_all, giving_more}
use Rattle.yv_expand_uses.proofs.augment_order.places_of.Goals as goal

pub loop-number-preserved : goal.loop-number-preserved
loop-number-preserved c =
    let rows : List Row = rows_in c.args.rows.now in
    let r : Row = row c.entry-item.result in
    let at : slice_get rows c.loop-number.number ≡ Some r = row_read row _ rows c.loop-number.number c.entry-item.result c.entries-entry-items.ensures c.loop-number-test.true c.entry-item.is in
    giving_more rows c.loop-number.number r c.giving_place.result c.loop-number.places.items c.push.new.self.items at
    (c.giving_place.ensures rows c.requires (slice_get_within rows c.loop-number.number r at)) c.in_ok-push.ensures.items c.loop-number.invariant

pub returns : goal.returns
returns c = giving_all (rows_in c.args.rows.now) c.loop-number.number c.loop-number.places.items (omega (arith, rows_count row _ (rows_in c.args.rows.now) c.entries-entry-items.ensures, c.loop-number-test.false)) c.loop-number.invariant
