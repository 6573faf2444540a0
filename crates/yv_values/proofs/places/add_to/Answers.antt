use Rattle.yv_values.proofs.PlaceOrder.{inserted, inserted_order}
use Rattle.yv_values.proofs.places.add_to.Goals as goal

pub returns-clause-adds : goal.returns-clause-adds
returns-clause-adds c = rw c.in_ok-insert.ensures.items (inserted c.args.places.now.items c.count_below-at.result c.args.place)

pub returns-clause-order : goal.returns-clause-order
returns-clause-order c =
    let h = c.count_below-at.ensures in
    let same = c.as_slice.ensures.value in
    rw c.in_ok-insert.ensures.items (inserted_order c.args.places.now.items c.count_below-at.result c.args.place c.requires.order (rw (← same) h.bound) (rw (← same) h.below) (rw (← same) h.above))
