use Rattle.std.proofs.Common.{◌≡◌, map, length}
use Rattle.yv_base_numbers.specs.Intervals.{interval, ascend}
use Rattle.yv_base_numbers.proofs.order.ascend.Given as goal

abbrev pub invariant-loop-span : goal.invariant-loop-span
invariant-loop-span l = ascend (map interval l.rest) ≡ ascend (map interval l.spans)

abbrev pub decreases-loop-span : goal.decreases-loop-span
decreases-loop-span l = length l.rest
