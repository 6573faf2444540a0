use Rattle.yv_run.proofs.RunLemmas.{writes_same}
use Rattle.yv_run.proofs.answers.write_tree.Goals as goal

pub returns-clause-writes : goal.returns-clause-writes
returns-clause-writes g c = writes_same _ _ _ _ _ c.in_ok-output.ensures c.write_output-status.ensures.writes
