-- How a run ends, and what the process says of it.
use Rattle.std.specs.Prelude.{ℕ, List, Option, Some, None, codes}
use Rattle.yv_batch.specs.declared.batch.BatchEnd.{BatchEnd}
use Rattle.yv_batch.specs.declared.batch.BatchEnd.TheVariants as batch
use Rattle.yv_batch.specs.declared.level.Level.{Level}
use Rattle.yv_batch.specs.declared.level.Level.TheVariants as level
use Rattle.yv_run.specs.declared.status.Status.{Status}
use Rattle.yv_run.specs.declared.status.Status.TheVariants as ended
use Rattle.yv_run.specs.declared.status.Verdict.{Verdict}
use Rattle.yv_run.specs.declared.status.Verdict.TheVariants.{Clean, Refused, BadInput}

-- a run that nothing stopped ends by what it found
abbrev pub status_of : Verdict → Status
status_of Clean = ended.Clean
status_of Refused = ended.Refused
status_of BadInput = ended.BadInput

-- a run over documents of which the worst is like this
abbrev pub level_status : Level → Status
level_status level.Valid = ended.Clean
level_status level.Faulty = ended.Refused
level_status level.BadInput = ended.BadInput
level_status level.Unread = ended.ReadFault

-- a run over many documents ends by the worst of them
abbrev pub batch_status : BatchEnd → Status
batch_status (batch.All tally) = level_status tally.level
batch_status batch.WriteFault = ended.WriteFault
batch_status batch.Endless = ended.ReadFault

-- the status that the process exits with
abbrev pub exit_of : Status → ℕ
exit_of ended.Clean = 0
exit_of ended.Refused = 1
exit_of ended.BadInput = 2
exit_of ended.NoMemory = 3
exit_of ended.PatternBuild = 3
exit_of ended.ReadFault = 3
exit_of ended.WriteFault = 3

-- what is said of a run that was stopped
abbrev pub complaint_of : Status → Option (List ℕ)
complaint_of ended.Clean = None
complaint_of ended.Refused = None
complaint_of ended.BadInput = None
complaint_of ended.NoMemory = Some (codes "yangcheck: out of memory")
complaint_of ended.PatternBuild = Some (codes "yangcheck: pattern not built")
complaint_of ended.ReadFault = Some (codes "yangcheck: cannot read")
complaint_of ended.WriteFault = Some (codes "yangcheck: cannot write")
