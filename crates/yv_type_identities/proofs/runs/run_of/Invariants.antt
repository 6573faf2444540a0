use Rattle.std.proofs.Common.{take}
use Rattle.yv_type_identities.proofs.NumberRuns.{Joins}
use Rattle.yv_type_identities.proofs.runs.run_of.Given as goal

abbrev pub invariant-loop-node : goal.invariant-loop-node
invariant-loop-node l = Joins l.runs l.ranks (take l.node-index l.nodes) l.run
