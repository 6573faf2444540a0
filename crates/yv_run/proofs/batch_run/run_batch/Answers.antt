use Rattle.std.proofs.Common.{ap}
use Rattle.std.proofs.lemmas.Result.{IfOk-weaker}
use Rattle.yv_text_statement.specs.declared.refusal.Stop.{Stop}
use Rattle.yv_nodes.specs.Rows.{Rows}
use Rattle.yv_run.specs.Batches.{answered, refused}
use Rattle.yv_run.proofs.BatchLemmas.{not_before}
use Rattle.yv_run.proofs.FileLemmas.{failed}
use Rattle.yv_run.proofs.RunLemmas.{both}
use Rattle.yv_run.proofs.batch_run.run_batch.Goals as goal

pub returns-in-Ok-clause-runs : goal.returns-in-Ok-clause-runs
returns-in-Ok-clause-runs g c =
    both _ _ _ c.answer_documents.result
    (λ e answers none. answered c.in-Ok.schema c.in-Ok.ensures.schema answers none)
    c.answer_documents.ensures.answers c.answer_documents.ensures.note

pub returns-in-Err-Fault-clause-runs : goal.returns-in-Err-Fault-clause-runs
returns-in-Err-Fault-clause-runs g c =
    both _ _ _ c.write_refusal.result
    (λ e writes noted. refused c.in-Err-Fault.refusal (c.in-Err-Fault.ensures.refuses c.in-Err-Fault.refusal (ap (failed Rows Stop) c.in-Err-Fault.field-0-is)) writes noted)
    c.write_refusal.ensures.writes c.write_refusal.ensures.notes

pub returns-in-Err-Fault-clause-ends : goal.returns-in-Err-Fault-clause-ends
returns-in-Err-Fault-clause-ends g c =
    IfOk-weaker c.write_refusal.result _ _ (λ e h. not_before e.status h) c.write_refusal.ensures.ends
