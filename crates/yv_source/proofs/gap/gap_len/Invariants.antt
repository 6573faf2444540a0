use Rattle.std.proofs.Common.{◌-◌, ◌+◌, ◌≤◌, length}
use Rattle.yv_source.specs.Inner.Gap.{IsGap}
use Rattle.yv_source.proofs.gap.gap_len.Given as goal

abbrev pub invariant-loop-comment : goal.invariant-loop-comment
invariant-loop-comment l = (l.at ≤ length l.bytes) × IsGap l.bytes l.at

abbrev pub decreases-loop-comment : goal.decreases-loop-comment
decreases-loop-comment l = length l.bytes + 1 - l.at
