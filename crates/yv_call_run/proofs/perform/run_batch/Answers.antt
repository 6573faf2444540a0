use Rattle.yv_base_streams.specs.Stream.{stream_inner}
use Rattle.yv_base_streams.specs.Files.{file_of}
use Rattle.std.proofs.Common.{map}
use Rattle.yv_job.specs.Jobs.{task_of}
use Rattle.yv_call_run.proofs.OutcomeLemmas.{outcome_before, outcome_map}
use Rattle.yv_call_run.proofs.RunLemmas.{batch_of}
use Rattle.yv_call_run.proofs.perform.run_batch.Goals as goal

pub returns : goal.returns
returns g c = λ documents are.
    outcome_map c.run_all-run.result.status _ _
    (batch_of (task_of c.args.job.now) (map file_of c.args.inputs.now) c.run_all-run.result _ _ _ _
    (g.W.Write.contents (stream_inner c.args.writer.now))
    (g.W.Write.contents (stream_inner c.run_all-run.new.writer))
    (c.shelf_documents-documents.ensures documents are))
    (outcome_before (λ w. g.W.Write.contents (stream_inner w)) c.run_all-run.result.status
    c.args.writer.now c.run_all-run.new.writer c.run_all-run.ensures.writes
    c.run_all-run.ensures.rest)
