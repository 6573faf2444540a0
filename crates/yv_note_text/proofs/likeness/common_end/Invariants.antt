use Rattle.std.proofs.Common.{◌≡◌, ℕ, ◌<◌, ◌≤◌, ◌+◌, ◌-◌, length, get_or}
use Rattle.yv_note_text.proofs.likeness.common_end.Given as goal

abbrev pub invariant-loop-count : goal.invariant-loop-count
invariant-loop-count l =
    (l.front + l.count ≤ length l.one) × (l.front + l.count ≤ length l.other)
    × ((k : ℕ) → k < l.count → get_or l.one (length l.one - 1 - k) 0 ≡ get_or l.other (length l.other - 1 - k) 0)

abbrev pub decreases-loop-count : goal.decreases-loop-count
decreases-loop-count l = length l.one - l.count
