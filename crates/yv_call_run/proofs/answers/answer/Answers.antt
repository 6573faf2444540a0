use Rattle.std.proofs.Common.{ℕ, List, All, Bor, map, refl, subst, sym}
use Rattle.std.specs.Str.{IsUtf8}
use Rattle.yv_call_run.specs.CallAnswers.{unspelled}
use Rattle.yv_call_run.proofs.OutcomeLemmas.{wrote_none}
use Rattle.yv_call_run.proofs.answers.answer.Goals as goal

pub returns-in-Ok-None : goal.returns-in-Ok-None
returns-in-Ok-None g c = λ given words files documents.
    let here : All IsUtf8 (map (λ (w : Bor (List ℕ)). w.now) c.args.words.now) → ⊥ =
    rw c.in-Ok-None.field-0-is at c.in-Ok-None.ensures in
    wrote_none _ _ (unspelled (subst (λ ws. All IsUtf8 ws → ⊥) (sym words) here)
    c.refuse.ensures.status refl)
