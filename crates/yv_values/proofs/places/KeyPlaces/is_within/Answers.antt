use Rattle.std.proofs.Common.{length, get_or, refl, arith}
use Rattle.yv_values.proofs.PlaceOrder.{within_here, none_within, decided_past}
use Rattle.yv_values.proofs.places.KeyPlaces.is_within.Goals as goal

pub returns-then-at-places : goal.returns-then-at-places
returns-then-at-places c =
    let xs = c.as_slice-places.result.now in
    let i = c.count_below-at.result in
    let h = c.count_below-at.ensures in
    let inside = c.if-at-places.true in
    rw (← c.as_slice-places.ensures.value) (within_here xs i c.args.first c.args.last c.as_slice-places.ensures.order h.below (get_or xs i 0) (omega (arith, inside)) (h.above i (omega arith) (omega (arith, inside))) refl)

pub returns-else-at-places : goal.returns-else-at-places
returns-else-at-places c =
    let xs = c.as_slice-places.result.now in
    let i = c.count_below-at.result in
    let past = c.if-at-places.false in
    rw (← c.as_slice-places.ensures.value) (decided_past i (length xs) _ (omega (arith, past)) (none_within xs i c.args.first c.args.last c.as_slice-places.ensures.order c.count_below-at.ensures.below (omega (arith, past))))
