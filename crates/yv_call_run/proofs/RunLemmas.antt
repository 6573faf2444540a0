-- What is answered after a run.
use Rattle.std.proofs.Common.{◌≡◌, ◌∙◌, ℕ, List, [], ◌++◌, Bool, Option, None, Some, Result, Ok, Err, IfOk, inl, inr, refl, sym, ap, subst, append_assoc}
use Rattle.std.specs.Option.{option_map_or}
use Rattle.yv_base_streams.specs.Files.{File}
use Rattle.yv_batch.specs.AskedDocument.{AskedDocument}
use Rattle.yv_call.specs.Fits.{Fits}
use Rattle.yv_call.specs.GivenFiles.{files_named}
use Rattle.yv_call_run.proofs.OutcomeLemmas.{wrote_none}
use Rattle.yv_call_run.proofs.Shifts.{action_from}
use Rattle.yv_call_run.specs.CallAnswers.{Answers, performs, stops}
use Rattle.yv_call_run.specs.Calls.{CallInput, line_of}
use Rattle.yv_call_run.specs.InnerOutcomes.{Outcome, Wrote}
use Rattle.yv_call_run.specs.NoteParts.{Has, HasNote}
use Rattle.yv_call_run.specs.Performs.{DoesAction, RunsBatch}
use Rattle.yv_job.specs.Asks.{WordsAsk}
use Rattle.yv_job.specs.Jobs.{Task}
use Rattle.yv_job.specs.Requests.{RequestAsked}
use Rattle.yv_run.specs.Batches.{RunsAll}
use Rattle.yv_run.specs.Status.{exit_of}
use Rattle.yv_run.specs.declared.whole_run.RunEnd.{RunEnd}

-- a note among other parts
pub has_note : {S E : Type 0} (bytes : S → List ℕ) (note : Result (Option S) E)
    (first line run last : List ℕ) → IfOk note (λ n. run ≡ option_map_or bytes n [])
    → IfOk note (λ n. Has (first ++ (line ++ (run ++ last))) (option_map_or bytes n []))
has_note bytes (Ok n) first line run last is = (
  first ++ line,
  last,
  sym (append_assoc first line (run ++ last))
      ∙ ap (λ r. (first ++ line) ++ (r ++ last)) is,
)
has_note bytes (Err e) first line run last is = tt

-- a run over documents, of which it is known which they are
pub batch_of : (task : Task) (files : List File) (run : RunEnd) (is_over : Bool)
    (unread rest : Option (List AskedDocument)) (documents : List AskedDocument)
    (old new : Option (List ℕ)) → unread ≡ Some documents
    → RunsAll task files run is_over unread rest old new
    → RunsBatch task files documents run old new
batch_of task files run is_over unread rest documents old new is runs =
    (is_over, rest, subst (λ u. RunsAll task files run is_over u rest old new) is runs)

-- what was written, and how the call is answered
pub wrote_run : (given : CallInput) (asked : RequestAsked) (files documents : List (List ℕ))
    (inputs : List File) (run : RunEnd) (status : ℕ) (note : List ℕ) (old new : Option (List ℕ))
    → given.files ≡ files → given.documents ≡ documents → inputs ≡ files_named asked.files files
    → WordsAsk (line_of given) asked → Fits asked files documents → HasNote run note
    → status ≡ exit_of run.status
    → Outcome run.status old new (DoesAction asked.action asked inputs documents run old new)
    → Wrote old new (λ output. Answers given status output note)
wrote_run given asked files documents inputs run status note None new fs ds is asks fits has st how =
    tt
wrote_run given asked files documents inputs run status note (Some before) new fs ds is asks fits
    has st (inl stopped) =
    subst (λ n. Wrote (Some before) n (λ output. Answers given status output note)) (sym stopped.1)
    (wrote_none (Some before) (λ output. Answers given status output note)
    (stops (st ∙ stopped.0) refl))
wrote_run given asked files documents inputs run status note (Some before) new fs ds is asks fits
    has st (inr does) =
    let w = action_from before asked.action asked inputs documents run new does in
    let done : DoesAction asked.action asked (files_named asked.files given.files) given.documents
    run (Some []) (Some w.0) =
    subst (λ d. DoesAction asked.action asked (files_named asked.files given.files) d run (Some [])
    (Some w.0)) (sym ds)
    (subst (λ f. DoesAction asked.action asked (files_named asked.files f) documents run (Some [])
    (Some w.0)) (sym fs)
    (subst (λ i. DoesAction asked.action asked i documents run (Some []) (Some w.0)) is w.2)) in
    let fit : Fits asked given.files given.documents =
    subst (λ d. Fits asked given.files d) (sym ds)
    (subst (λ f. Fits asked f documents) (sym fs) fits) in
    subst (λ n. Wrote (Some before) n (λ output. Answers given status output note)) (sym w.1)
    (w.0, refl, performs asked asks fit run done has st)
