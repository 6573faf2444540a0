use Rattle.yv_expand_uses.proofs.PlaceNumbers.{Placed}
use Rattle.yv_expand_uses.proofs.augment_order.places_in.Given as goal

abbrev pub invariant-loop-left : goal.invariant-loop-left
invariant-loop-left l = Placed l.numbers l.count l.left l.places.items

abbrev pub decreases-loop-left : goal.decreases-loop-left
decreases-loop-left l = l.left
