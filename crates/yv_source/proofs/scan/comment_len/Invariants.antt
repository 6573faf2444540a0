use Rattle.std.proofs.Common.{◌-◌, ◌+◌, length}
use Rattle.yv_source.specs.Pieces.{begins_two}
use Rattle.yv_source.proofs.Until.{SearchedTo}
use Rattle.yv_source.proofs.scan.comment_len.Given as goal

abbrev pub invariant-loop-at : goal.invariant-loop-at
invariant-loop-at l = SearchedTo (begins_two 42 47) l.bytes l.at

abbrev pub decreases-loop-at : goal.decreases-loop-at
decreases-loop-at l = length l.bytes + 1 - l.at
