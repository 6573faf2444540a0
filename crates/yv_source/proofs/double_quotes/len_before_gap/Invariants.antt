use Rattle.std.proofs.Common.{◌<◌, ◌≤◌}
use Rattle.std.specs.Prelude.{slice_index}
use Rattle.yv_source.proofs.double_quotes.len_before_gap.Given as goal

abbrev pub invariant-loop-len : goal.invariant-loop-len
invariant-loop-len l = (l.len ≤ l.end) × (l.len < l.end → slice_index l.bytes l.len < 128)

abbrev pub decreases-loop-len : goal.decreases-loop-len
decreases-loop-len l = l.len
