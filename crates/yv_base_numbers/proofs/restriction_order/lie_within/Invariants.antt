use Rattle.std.proofs.Common.{◌≡◌, true, map, length}
use Rattle.yv_base_numbers.specs.RestrictedIntervals.{interval, ascend, lie_within}
use Rattle.yv_base_numbers.proofs.restriction_order.lie_within.Given as goal

abbrev pub invariant-loop-span : goal.invariant-loop-span
invariant-loop-span l = record {
  same : lie_within (map interval l.base) (map interval l.rest) ≡ lie_within (map interval l.base) (map interval l.spans);
  parts : ascend (map interval l.rest) ≡ true;
}

abbrev pub decreases-loop-span : goal.decreases-loop-span
decreases-loop-span l = length l.rest
