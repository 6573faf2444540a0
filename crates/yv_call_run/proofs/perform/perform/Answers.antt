use Rattle.std.proofs.Common.{ℕ, List, map, string_bytes, subst}
use Rattle.yv_base_streams.specs.Stream.{stream_inner}
use Rattle.yv_base_streams.specs.Files.{file_of}
use Rattle.yv_call.specs.Plans.{IsWorkFor}
use Rattle.yv_call.specs.ShelfDocuments.{document_of}
use Rattle.yv_call.specs.declared.plan.Work.TheVariants.{ValidateAll}
use Rattle.yv_job.specs.Jobs.{task_of}
use Rattle.yv_call_run.proofs.ActionLemmas.{does_batch, named_in}
use Rattle.yv_call_run.proofs.OutcomeLemmas.{outcome_map}
use Rattle.yv_call_run.proofs.perform.perform.Goals as goal

pub returns-in-ValidateAll : goal.returns-in-ValidateAll
returns-in-ValidateAll g c = λ asked same work are.
    let is : IsWorkFor asked (ValidateAll c.in-ValidateAll.batch) =
    subst (λ w. IsWorkFor asked w) c.in-ValidateAll.is work in
    let documents : List (List ℕ) = map (λ d. d.now) c.args.documents.now in
    let names : List (List ℕ) = map string_bytes c.in-ValidateAll.batch.names.items in
    outcome_map c.run_batch.result.run.status _ _
    (does_batch asked (task_of c.args.job.now) (map file_of c.args.inputs.now) documents
    c.run_batch.result.run (g.W.Write.contents (stream_inner c.args.writer.now))
    (g.W.Write.contents (stream_inner c.run_batch.new.writer)) same names
    c.in-ValidateAll.batch.each is.0 is.1)
    (c.run_batch.ensures documents
    (named_in (document_of c.args.shelf) asked.action names documents is.0 are))
