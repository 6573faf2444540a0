use Rattle.std.proofs.Common.{◌≡◌, not, reverse, length, if◌then◌else◌}
use Rattle.yv_lint.specs.Arguments.{begins_evenly}
use Rattle.yv_lint.proofs.arguments.ends_evenly.Given as goal

abbrev pub invariant-loop-front : goal.invariant-loop-front
invariant-loop-front l = begins_evenly (reverse l.text) ≡ (if l.is_even then begins_evenly (reverse l.rest) else not (begins_evenly (reverse l.rest)))

abbrev pub decreases-loop-front : goal.decreases-loop-front
decreases-loop-front l = length l.rest
