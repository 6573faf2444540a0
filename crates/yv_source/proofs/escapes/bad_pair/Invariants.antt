use Rattle.std.proofs.Common.{◌-◌, length}
use Rattle.yv_source.proofs.Pairs.{PairsTo}
use Rattle.yv_source.proofs.escapes.bad_pair.Given as goal

abbrev pub invariant-loop-at : goal.invariant-loop-at
invariant-loop-at l = PairsTo l.bytes l.at

abbrev pub decreases-loop-at : goal.decreases-loop-at
decreases-loop-at l = length l.bytes - l.at
