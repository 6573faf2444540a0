use Rattle.std.proofs.Common.{◌≡◌, ◌++◌, drop}
use Rattle.yv_link_scopes.specs.Views.{rows_in}
use Rattle.yv_expand_uses.specs.AugmentOrder.{giving_from}
use Rattle.yv_expand_uses.proofs.augment_order.places_of.Given as goal

abbrev pub invariant-loop-number : goal.invariant-loop-number
invariant-loop-number l = l.places.items ++ giving_from (rows_in l.rows) l.number (drop l.number (rows_in l.rows)) ≡ giving_from (rows_in l.rows) 0 (rows_in l.rows)
