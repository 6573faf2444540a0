use Rattle.std.proofs.Common.{◌≤◌}
use Rattle.yv_note_faults.proofs.hint.count_missing.Given as goal

abbrev pub invariant-loop-fault : goal.invariant-loop-fault
invariant-loop-fault l = l.count ≤ l.fault-index
