use Rattle.std.proofs.Common.{◌≡◌, ℕ, ◌<◌, ◌≤◌, length, get_or}
use Rattle.yv_expand_uses.specs.Ends.{end_at}
use Rattle.yv_expand_uses.proofs.ends.item_ends.Given as goal

abbrev pub invariant-loop-left : goal.invariant-loop-left
invariant-loop-left l = record {
  each : length l.ends.items ≡ length l.items;
  within : l.left ≤ length l.items;
  known : (i : ℕ) → l.left ≤ i → i < length l.items → get_or l.ends.items i 0 ≡ end_at l.items i;
}

abbrev pub decreases-loop-left : goal.decreases-loop-left
decreases-loop-left l = l.left
