use Rattle.std.proofs.Common.{◌≡◌, ◌≤◌, ◌==◌, ◌-◌, length, take}
use Rattle.std.specs.Prelude.{count_by}
use Rattle.yv_source.proofs.place.line_feeds.Given as goal

abbrev pub invariant-loop-at : goal.invariant-loop-at
invariant-loop-at l = (l.at ≤ length l.bytes) × (l.count ≡ count_by (λ b. b == 10) (take l.at l.bytes)) × (l.count ≤ l.at)

abbrev pub decreases-loop-at : goal.decreases-loop-at
decreases-loop-at l = length l.bytes - l.at
