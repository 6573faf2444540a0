use Rattle.yv_run.proofs.RunLemmas.{both}
use Rattle.yv_run.proofs.lint_run.write_stop.Goals as goal

pub returns-in-Fault-clause-writes : goal.returns-in-Fault-clause-writes
returns-in-Fault-clause-writes g c =
    both _ _ _ c.write_refusal.result
    (λ e writes noted. record { refusal = c.in-Fault.refusal; is = c.in-Fault.is; writes = writes; noted = noted })
    c.write_refusal.ensures.writes c.write_refusal.ensures.notes
