use Rattle.yv_run.proofs.RunLemmas.{writes_same}
use Rattle.yv_run.proofs.answers.write_count.Goals as goal

pub returns-clause-writes : goal.returns-clause-writes
returns-clause-writes g c = writes_same _ _ _ _ _ c.of_count-output.ensures c.write_output.ensures.writes
