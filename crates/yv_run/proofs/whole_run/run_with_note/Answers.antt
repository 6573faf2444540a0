use Rattle.std.proofs.Common.{inl, inr}
use Rattle.yv_run.proofs.whole_run.run_with_note.Goals as goal

pub returns-in-Ok-clause-writes : goal.returns-in-Ok-clause-writes
returns-in-Ok-clause-writes g c = inr c.in-Ok.ensures.runs

pub returns-in-Err-NoMemory-clause-writes : goal.returns-in-Err-NoMemory-clause-writes
returns-in-Err-NoMemory-clause-writes g c = inl (rw c.stop_with.ensures.status tt)

pub returns-in-Err-Read-clause-writes : goal.returns-in-Err-Read-clause-writes
returns-in-Err-Read-clause-writes g c = inl (rw c.stop_with-in-Err-Read.ensures.status tt)
