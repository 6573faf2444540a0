use Rattle.yv_run.proofs.RunLemmas.{without_note}
use Rattle.yv_run.proofs.whole_run.run.Goals as goal

pub returns-clause-writes : goal.returns-clause-writes
returns-clause-writes g c = without_note _ _ c.run_with_note.result _ _ _ _ c.run_with_note.ensures.writes
