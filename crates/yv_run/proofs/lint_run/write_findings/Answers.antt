use Rattle.yv_run.proofs.RunLemmas.{writes_same}
use Rattle.yv_run.proofs.lint_run.write_findings.Goals as goal

pub returns-clause-writes : goal.returns-clause-writes
returns-clause-writes g c = writes_same _ _ _ _ _ c.of_findings.ensures c.write_output-status.ensures.writes
