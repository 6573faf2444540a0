use Rattle.std.proofs.Common.{◌≡◌, length}
use Rattle.yv_note_faults.proofs.causes.Causes.find.Given as goal

abbrev pub invariant-loop-fault : goal.invariant-loop-fault
invariant-loop-fault l = length l.causes.leads.items ≡ l.fault-index
