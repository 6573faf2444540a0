use Rattle.std.proofs.Common.{Some, subst, sym, inl, inr}
use Rattle.std.specs.Prelude.{OnOk}
use Rattle.std.specs.declared.result.Result.{Result}
use Rattle.std.specs.declared.result.Result.TheVariants.{Ok, Err}
use Rattle.yv_text_statement.specs.Order.{IsLeast}
use Rattle.yv_link_definitions.specs.Meanings.{AreNames}
use Rattle.yv_link_definitions.specs.Refusals.{BadNames}
use Rattle.yv_types.proofs.build.resolve_types.Goals as goal

-- what holds anyway holds of an answer, and what follows from what holds of it
always : {A E : Type 0} (r : Result A E) {P : Type 0} → P → OnOk r P
always (Ok a) p = p
always (Err e) p = tt

follows : {A E : Type 0} (r : Result A E) {P Q : Type 0} → (P → Q) → OnOk r P → OnOk r Q
follows (Ok a) f p = f p
follows (Err e) f p = tt

pub returns-in-Ok-clause-names : goal.returns-in-Ok-clause-names
returns-in-Ok-clause-names c = always c.types.result (λ files choice linked s bad.
    c.in-Ok.ensures.clear s (subst (λ fs. BadNames fs s) (sym (c.rows.ensures files choice linked)) bad))

pub returns-in-Ok-clause-clear : goal.returns-in-Ok-clause-clear
returns-in-Ok-clause-clear c = follows c.types.result (λ clear files choice linked.
    clear files choice linked (subst (λ fs. AreNames fs c.in-Ok.names) (c.rows.ensures files choice linked) c.in-Ok.ensures.makes))
    c.types.ensures.clear

pub returns-in-Ok-clause-refusal : goal.returns-in-Ok-clause-refusal
returns-in-Ok-clause-refusal c = λ r e files choice linked.
    inr (
      λ s bad. c.in-Ok.ensures.clear s (subst (λ fs. BadNames fs s) (sym (c.rows.ensures files choice linked)) bad),
      c.types.ensures.refusal r e files choice linked
          (subst (λ fs. AreNames fs c.in-Ok.names) (c.rows.ensures files choice linked) c.in-Ok.ensures.makes),
    )

pub returns-in-Err-clause-refusal : goal.returns-in-Err-clause-refusal
returns-in-Err-clause-refusal c = λ r e files choice linked.
    inl (subst (λ fs. IsLeast (BadNames fs) (Some r)) (c.rows.ensures files choice linked)
    (c.in-Err.ensures.refusal r (let h = e in cc)))
