use Rattle.std.proofs.Common.{◌≡◌, true, map, length}
use Rattle.std.specs.List.{list_any}
use Rattle.yv_base_numbers.specs.RestrictedIntervals.{interval, ascend, lies_in}
use Rattle.yv_base_numbers.proofs.restriction_order.lies_in_any.Given as goal

abbrev pub invariant-loop-lower : goal.invariant-loop-lower
invariant-loop-lower l = record {
  same : list_any (lies_in (interval l.span)) (map interval l.rest) ≡ list_any (lies_in (interval l.span)) (map interval l.base);
  whole : ascend (map interval l.rest) ≡ true;
}

abbrev pub decreases-loop-lower : goal.decreases-loop-lower
decreases-loop-lower l = length l.rest
