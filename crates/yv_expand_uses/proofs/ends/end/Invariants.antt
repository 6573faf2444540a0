use Rattle.std.proofs.Common.{◌≡◌, ◌+◌, ◌-◌, ◌<◌, ◌≤◌, length, drop}
use Rattle.yv_expand_uses.specs.Ends.{run_length, end_at}
use Rattle.yv_expand_uses.proofs.ends.end.Given as goal

abbrev pub invariant-loop-next : goal.invariant-loop-next
invariant-loop-next l = record {
  behind : l.number < l.next;
  within : l.next ≤ length l.items;
  left : l.next + run_length l.number (drop l.next l.items) ≡ end_at l.items l.number;
}

abbrev pub decreases-loop-next : goal.decreases-loop-next
decreases-loop-next l = length l.items - l.next
