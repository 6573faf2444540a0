use Rattle.std.proofs.Common.{◌≡◌, refl, map, List, Some}
use Rattle.std.specs.List.{slice_get}
use Rattle.yv_link_scopes.specs.Rows.{Row, row}
use Rattle.yv_link_scopes.proofs.Firsts.{get_map}
use Rattle.yv_link_scopes.proofs.kind.first_entries.Goals as goal

pub loop-number-preserved : goal.loop-number-preserved
loop-number-preserved c =
    let rows : List Row = map row c.args.entries.now in
    let e : Row = row c.index-entries-number.result in
    let at : slice_get rows c.loop-number.number ≡ Some e = get_map row c.args.entries.now _ c.loop-number.number c.index-entries-number.result refl c.loop-number-test.true c.index-entries-number.is in
    c.in_ok-keep_name.ensures rows at c.loop-number.invariant
