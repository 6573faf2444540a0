use Rattle.yv_values.proofs.PlaceOrder.{first_is_least}
use Rattle.yv_values.proofs.places.KeyPlaces.least.Goals as goal

pub returns : goal.returns
returns c =
    let h = c.as_slice.ensures in
    rw (← h.value) (first_is_least c.as_slice.result.now h.some h.order)
