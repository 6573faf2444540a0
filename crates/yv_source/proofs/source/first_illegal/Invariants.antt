use Rattle.std.proofs.Common.{◌-◌, length}
use Rattle.yv_source.proofs.Legality.{LegalTo}
use Rattle.yv_source.proofs.source.first_illegal.Given as goal

abbrev pub invariant-loop-c : goal.invariant-loop-c
invariant-loop-c l = LegalTo l.text l.at

abbrev pub decreases-loop-c : goal.decreases-loop-c
decreases-loop-c l = length l.text - l.at
