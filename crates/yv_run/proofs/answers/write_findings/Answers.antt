use Rattle.yv_run.proofs.RunLemmas.{writes_same}
use Rattle.yv_run.proofs.answers.write_findings.Goals as goal

pub returns-clause-writes : goal.returns-clause-writes
returns-clause-writes g c = writes_same _ _ _ _ _ c.in_ok-answer.ensures.prints c.write_output-status.ensures.writes
