use Rattle.std.proofs.Common.{◌≡◌, refl, sym, ◌∙◌, ap, List, Some}
use Rattle.std.specs.List.{slice_get}
use Rattle.yv_link_scopes.specs.Rows.{Row, row}
use Rattle.yv_link_scopes.specs.Views.{rows_in}
use Rattle.yv_link_scopes.proofs.Firsts.{get_map}
use Rattle.yv_link_scopes.proofs.kind.definition_places.Goals as goal

pub loop-number-preserved : goal.loop-number-preserved
loop-number-preserved c =
    let rows : List Row = rows_in c.args.rows.now in
    let e : Row = row c.entry-item.result in
    let at : slice_get rows c.loop-number.number ≡ Some e = ap (λ (xs : List Row). slice_get xs c.loop-number.number) (sym c.entries-entry-items.ensures) ∙ get_map row c.entries-entry-items.result.now _ c.loop-number.number c.entry-item.result refl c.loop-number-test.true c.entry-item.is in
    c.in_ok-add.ensures rows at c.loop-number.invariant
