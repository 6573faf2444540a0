use Rattle.yv_data_quiet.specs.Runs.{HaveRuns}
use Rattle.yv_data_quiet.proofs.runs.RunTable.read.Given as goal

abbrev pub invariant-loop-index : goal.invariant-loop-index
invariant-loop-index l = HaveRuns l.schema l.rows
