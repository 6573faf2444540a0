use Rattle.std.proofs.Common.{◌≡◌, ◌∙◌, ◌∷◌, ap, codes, map, refl, string_bytes, subst, sym}
use Rattle.yv_call_run.specs.CallAnswers.{refused}
use Rattle.yv_call_run.specs.Calls.{line_of}
use Rattle.yv_job.specs.Faults.{AskForNothing}
use Rattle.yv_call_run.proofs.OutcomeLemmas.{wrote_none}
use Rattle.yv_call_run.proofs.answers.answer_texts.Goals as goal

pub returns-in-Err-Usage : goal.returns-in-Err-Usage
returns-in-Err-Usage g c = λ given words files documents.
    let none : AskForNothing (map string_bytes c.deref.result.now) =
    rw c.in-Err-Usage.field-0-is at c.in-Err-Usage.ensures.usage in
    let line : map string_bytes c.deref.result.now ≡ line_of given =
    ap (map string_bytes) c.deref.ensures.value ∙ c.in-Ok.ensures
    ∙ ap (λ ws. codes "yangcheck" ∷ ws) (sym words) in
    wrote_none _ _ (refused (subst AskForNothing line none) c.refuse_words.ensures refl)
