use Rattle.std.proofs.Common.{◌≡◌, ℕ, List, Option, length, Some, None, if◌then◌else◌, sym, ◌∙◌, ap, arith}
use Rattle.std.proofs.lemmas.List.{length-map}
use Rattle.yv_base_tables.specs.Families.{by_place}
use Rattle.yv_link_scopes.specs.Views.{rows_in}
use Rattle.yv_expand_uses.specs.AugmentOrder.{is_node_or_uses, item_places}
use Rattle.yv_expand_uses.proofs.augment_order.giving_places.Goals as goal

pub places_of-requires : goal.places_of-requires
places_of-requires c =
    let rows = rows_in c.args.rows.now in
    let places : List (Option ℕ) = item_places rows in
    let is : c.deref.result.now ≡ places = c.deref.ensures.value ∙ sym c.in_ok-stand.ensures in
    let count : c.len.result ≡ length rows = omega (arith, c.len.ensures, ap length c.in_ok-stand.ensures, length-map rows (λ r. if is_node_or_uses r then Some r.scope else None)) in
    c.in_ok-items.ensures ∙ ap (λ l. by_place l c.len.result) is ∙ ap (by_place places) count
