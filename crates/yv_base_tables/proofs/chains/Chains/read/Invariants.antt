use Rattle.std.proofs.Common.{◌≤◌, length}
use Rattle.yv_base_tables.specs.InnerChains.{AreChains}
use Rattle.yv_base_tables.proofs.chains.Chains.read.Given as goal

abbrev pub invariant-loop-left : goal.invariant-loop-left
invariant-loop-left l = record { within : l.left ≤ length l.places; linked : AreChains l.places l.count l.left l.chains }

abbrev pub decreases-loop-left : goal.decreases-loop-left
decreases-loop-left l = l.left
