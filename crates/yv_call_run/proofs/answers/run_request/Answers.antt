use Rattle.std.proofs.Common.{◌∙◌, ℕ, List, Bor, ap, map, refl, string_bytes}
use Rattle.yv_base_streams.specs.Files.{file_of}
use Rattle.yv_call.specs.GivenFiles.{files_named}
use Rattle.yv_call_run.specs.CallAnswers.{stops}
use Rattle.yv_job.specs.Requests.{request_of}
use Rattle.yv_call_run.proofs.OutcomeLemmas.{wrote_none}
use Rattle.yv_call_run.proofs.RunLemmas.{wrote_run}
use Rattle.yv_call_run.proofs.answers.run_request.Goals as goal

pub returns-in_default : goal.returns-in_default
returns-in_default g c = λ given asks files documents. wrote_none _ _ (stops c.stop.ensures refl)

pub returns : goal.returns
returns g c = λ given asks files documents.
    let contents : List (List ℕ) = map (λ (f : Bor (List ℕ)). f.now) c.args.files.now in
    wrote_run given (request_of c.args.request) contents
    (map (λ (d : Bor (List ℕ)). d.now) c.args.documents.now) (map file_of c.deref.result.now)
    c.perform-done.result.run _ _ _ _ files documents
    (ap (map file_of) c.deref.ensures.value ∙ c.in-Ok.ensures.files
    ∙ ap (λ ns. files_named (map string_bytes ns) contents) c.as_slice.ensures.value)
    asks c.requires.fits c.answer_run.ensures.note c.answer_run.ensures.status
    (c.perform-done.ensures (request_of c.args.request) c.plan_of-job.ensures.task
    c.plan_of-job.ensures.work c.requires.named)
