use Rattle.std.proofs.Common.{ap, map}
use Rattle.std.proofs.lemmas.Result.{IfOk-weaker}
use Rattle.yv_text_statement.specs.declared.refusal.Stop.{Stop}
use Rattle.yv_job.specs.Jobs.{task_of}
use Rattle.yv_nodes.specs.Rows.{Rows}
use Rattle.yv_base_streams.specs.Files.{file_of}
use Rattle.yv_run.proofs.FileLemmas.{failed}
use Rattle.yv_run.proofs.RunLemmas.{both, runs_built, runs_refused}
use Rattle.yv_run.proofs.whole_run.run_job.Goals as goal

pub returns-in-Ok-clause-runs : goal.returns-in-Ok-clause-runs
returns-in-Ok-clause-runs g c =
    IfOk-weaker c.write_answer.result _ _
    (λ e runs. runs_built _ _ e _ _ (task_of c.args.job.now) (map file_of c.args.inputs.now) c.in-Ok.schema c.in-Ok.ensures.schema runs)
    c.write_answer.ensures.runs

pub returns-in-Err-Fault-clause-runs : goal.returns-in-Err-Fault-clause-runs
returns-in-Err-Fault-clause-runs g c =
    both _ _ _ c.write_refusal.result
    (λ e writes noted. runs_refused _ _ e _ (task_of c.args.job.now) (map file_of c.args.inputs.now) c.in-Err-Fault.refusal
    (c.in-Err-Fault.ensures.refuses c.in-Err-Fault.refusal (ap (failed Rows Stop) c.in-Err-Fault.field-0-is)) writes noted)
    c.write_refusal.ensures.writes c.write_refusal.ensures.notes
