use Rattle.std.proofs.Common.{ℕ, ◌≤◌, ◌<◌, ◌+◌, ◌≡◌, get_or}
use Rattle.yv_note_text.proofs.place.start_at.Given as goal

abbrev pub invariant-loop-start : goal.invariant-loop-start
invariant-loop-start l = record {
  low : l.start ≤ l.offset;
  near : l.offset ≤ l.start + 72;
  one : (k : ℕ) → l.start ≤ k → k < l.offset → get_or l.bytes k 0 ≡ 10 → ⊥;
}

abbrev pub decreases-loop-start : goal.decreases-loop-start
decreases-loop-start l = l.start
