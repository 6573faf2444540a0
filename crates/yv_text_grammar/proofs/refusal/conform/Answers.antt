use Rattle.std.proofs.Common.{◌≡◌, ⊎_elim, Bool, true, false, not, cond, Some, None, IfNone, sym, ◌∙◌, ap, refl}
use Rattle.std.proofs.lemmas.Bool.{false≢true, not-true, not_from_false}
use Rattle.yv_text_statement.specs.Order.{IsLeast, Stands, refusal_at}
use Rattle.yv_text_grammar.specs.Refusals.{Bad, is_module, keyword_at}
use Rattle.yv_text_statement.specs.declared.keyword.Keyword.TheVariants as word
use Rattle.yv_text_statement.specs.declared.refusal.Code.TheVariants as code
use Rattle.yv_text_grammar.specs.Fits.{Fits, FitsIn}
use Rattle.yv_text_statement.specs.Tree.{Tree}
use Rattle.yv_text_grammar.specs.declared.xpath.Xpath.{Xpath}
use Rattle.yv_text_statement.specs.declared.refusal.Refusal.{Refusal}
use Rattle.yv_text_grammar.proofs.StatementFit.{neither, no_fault}
use Rattle.yv_text_statement.proofs.Least.{least_refused, least_lesser}
use Rattle.yv_text_grammar.proofs.refusal.conform.Goals as goal
use Rattle.yv_text_grammar.proofs.refusal.conform.Goals.{After-lesser-first}

least_bad : (c : After-lesser-first) → IsLeast (Bad c.args.xpath c.args.root.now) c.lesser-first.result
least_bad c =
    let s = c.args.root.now in
    let N : Type 0 = is_module (keyword_at s) ≡ false in
    let kind : c.kind-keyword.result ≡ keyword_at s = c.kind-keyword.ensures in
    let is : c.is_module.result ≡ is_module (keyword_at s) = c.is_module.ensures ∙ ap is_module kind in
    let outer : IsLeast (Stands N (refusal_at code.Cardinality 0 s.head)) c.refusal_if-outer.result =
    rw c.refusal_if-outer.ensures (least_refused N _ _ (λ h. sym is ∙ not-true _ h) (λ h. not_from_false _ (is ∙ h))) in
    least_lesser _ _ _ _ _ c.lesser-first.ensures outer c.first_refusal-inner.ensures.least

-- where nothing was found, the root fits
root_fits : (c : After-lesser-first) → c.lesser-first.result ≡ None → Fits c.args.xpath c.args.root.now
root_fits c none =
    let s = c.args.root.now in
    let found = neither c.refusal_if-outer.result c.first_refusal-inner.result c.lesser-first.result c.lesser-first.ensures none in
    let kind : c.kind-keyword.result ≡ keyword_at s = c.kind-keyword.ensures in
    let is : c.is_module.result ≡ is_module (keyword_at s) = c.is_module.ensures ∙ ap is_module kind in
    let outer : cond (not c.is_module.result) (Some (refusal_at code.Cardinality 0 s.head)) None ≡ None = sym c.refusal_if-outer.ensures ∙ found.0 in
    let fits : IfNone c.first_refusal-inner.result (FitsIn c.args.xpath word.Unknown s) = c.first_refusal-inner.ensures.fits in
    (sym is ∙ spared _ _ outer, rw found.1 at fits)
  where
    spared : (b : Bool) (r : Refusal) → cond (not b) (Some r) None ≡ None → b ≡ true
    spared true r h = refl
    spared false r h = cc

-- what fits is not refused
unrefused : (x : Xpath) (s : Tree) (r : Refusal) → Fits x s → Bad x s r → ⊥
unrefused x s r fits = ⊎_elim (λ h. false≢true (sym h.0 ∙ fits.0)) (no_fault fits.1)

pub returns-in-Some-clause-least : goal.returns-in-Some-clause-least
returns-in-Some-clause-least c = let h : IsLeast (Bad c.args.xpath c.args.root.now) c.lesser-first.result = least_bad (goal.at.returns-in-Some-clause-least c).After-lesser-first in rw c.in-Some.is at h

pub returns-in-Some-clause-fits : goal.returns-in-Some-clause-fits
returns-in-Some-clause-fits c =
    let h : IsLeast (Bad c.args.xpath c.args.root.now) c.lesser-first.result = least_bad (goal.at.returns-in-Some-clause-fits c).After-lesser-first in
    let bad : IsLeast (Bad c.args.xpath c.args.root.now) (Some c.in-Some.refusal) = rw c.in-Some.is at h in
    (λ ok. absurd (false≢true ok), λ fits. absurd (unrefused _ _ _ fits bad.0))

pub returns-in-None-clause-least : goal.returns-in-None-clause-least
returns-in-None-clause-least c = let h : IsLeast (Bad c.args.xpath c.args.root.now) c.lesser-first.result = least_bad (goal.at.returns-in-None-clause-least c).After-lesser-first in rw c.in-None.is at h

pub returns-in-None-clause-fits : goal.returns-in-None-clause-fits
returns-in-None-clause-fits c = (λ ok. root_fits (goal.at.returns-in-None-clause-fits c).After-lesser-first c.in-None.is, λ fits. refl)
