use Rattle.std.proofs.Common.{◌≡◌, ◌≤◌, ◌+◌, ◌++◌, length, reverse, vec_capacity}
use Rattle.yv_expand.specs.InnerItems.{items_below, origins}
use Rattle.yv_expand.proofs.stack.put.Given as goal

abbrev pub invariant-loop-last : goal.invariant-loop-last
invariant-loop-last l = record {
  items : l.stack.items ++ reverse (items_below l.parent (origins l.rest)) ≡ l.initial.stack.items ++ reverse (items_below l.parent (origins l.numbers));
  long : length l.stack.items + length l.rest ≡ length l.initial.stack.items + length l.numbers;
  room : vec_capacity l.initial.stack ≤ vec_capacity l.stack;
}

abbrev pub decreases-loop-last : goal.decreases-loop-last
decreases-loop-last l = length l.rest
