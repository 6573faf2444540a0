use Rattle.std.proofs.Common.{ℕ, ◌≤◌, ◌<◌, ◌+◌, ◌≡◌, ◌-◌, length, get_or}
use Rattle.yv_note_text.proofs.place.end_at.Given as goal

abbrev pub invariant-loop-end : goal.invariant-loop-end
invariant-loop-end l = record {
  high : l.offset ≤ l.end;
  within : l.end ≤ length l.bytes;
  near : l.end ≤ l.offset + 72;
  one : (k : ℕ) → l.offset ≤ k → k < l.end → get_or l.bytes k 0 ≡ 10 → ⊥;
}

abbrev pub decreases-loop-end : goal.decreases-loop-end
decreases-loop-end l = length l.bytes - l.end
