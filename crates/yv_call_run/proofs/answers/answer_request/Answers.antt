use Rattle.std.proofs.Common.{◌∙◌, ◌++◌, ◌∷◌, [], ℕ, List, Bor, ap, map, refl, subst, sym}
use Rattle.yv_call.specs.Fits.{Lacks}
use Rattle.yv_call_run.specs.CallAnswers.{lacks, stops}
use Rattle.yv_job.specs.Requests.{request_of}
use Rattle.yv_call_run.proofs.OutcomeLemmas.{wrote_none}
use Rattle.yv_call_run.proofs.answers.answer_request.Goals as goal

pub returns-in-Ok-Err : goal.returns-in-Ok-Err
returns-in-Ok-Err g c = λ given asks files documents.
    let these : List (List ℕ) = map (λ (d : Bor (List ℕ)). d.now) c.args.documents.now in
    let here : Lacks (request_of c.args.request)
    (map (λ (f : Bor (List ℕ)). f.now) c.args.files.now) these c.in-Ok-Err.misfit =
    rw c.in-Ok-Err.field-0-is at c.in-Ok-Err.ensures.lacks in
    let there : Lacks (request_of c.args.request) given.files given.documents c.in-Ok-Err.misfit =
    subst (λ d. Lacks (request_of c.args.request) given.files d c.in-Ok-Err.misfit) (sym documents)
    (subst (λ f. Lacks (request_of c.args.request) f these c.in-Ok-Err.misfit) (sym files) here) in
    wrote_none _ _ (lacks (request_of c.args.request) asks c.in-Ok-Err.misfit there
    c.refuse.ensures.status refl (c.refuse.ensures.note ∙ ap (λ t. t ++ 10 ∷ []) c.reason.ensures))

pub returns-in-Err : goal.returns-in-Err
returns-in-Err g c = λ given asks files documents. wrote_none _ _ (stops c.stop.ensures refl)
