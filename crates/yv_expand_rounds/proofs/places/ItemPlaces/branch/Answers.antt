use Rattle.std.proofs.Common.{ℕ, ◌≡◌, Some, ap, sym, subst, ◌∙◌}
use Rattle.std.proofs.lemmas.Option.{none-some, same_Some}
use Rattle.yv_base_tables.specs.Fronts.{GoesOn}
use Rattle.yv_expand_rounds.specs.Paths.{step_end}
use Rattle.yv_expand_rounds.proofs.PathArrivals.{one_arrival}
use Rattle.yv_expand_rounds.proofs.places.ItemPlaces.branch.Goals as goal

pub returns-in_err-end-clause-all : goal.returns-in_err-end-clause-all
returns-in_err-end-clause-all c = λ labels groups all next are tree f is.
    let goes : GoesOn all c.args.from.path f.step c.args.path = subst (λ (p : ℕ). GoesOn all c.args.from.path f.step p) is f.path in
    let step : c.step.result ≡ f.step = c.step.ensures all c.args.from.path f.step tree goes in
    absurd (none-some next.end (sym c.in_err-end.was ∙ c.step-2.ensures labels groups are ∙ ap (step_end labels groups c.args.limit c.args.from.end) step ∙ f.leads))

pub returns-clause-some : goal.returns-clause-some
returns-clause-some c = λ labels groups all step are tree goes. record {
  step = step;
  path = goes;
  leads = ap (step_end labels groups c.args.limit c.args.from.end) (sym (c.step.ensures all c.args.from.path step tree goes)) ∙ sym (c.step-2.ensures labels groups are) ∙ c.in_ok-end.was;
}

pub returns-clause-all : goal.returns-clause-all
returns-clause-all c = λ labels groups all next are tree f is.
    let goes : GoesOn all c.args.from.path f.step c.args.path = subst (λ (p : ℕ). GoesOn all c.args.from.path f.step p) is f.path in
    let step : c.step.result ≡ f.step = c.step.ensures all c.args.from.path f.step tree goes in
    let same : c.in_ok-end.end ≡ next.end =
    same_Some c.in_ok-end.end next.end (sym c.in_ok-end.was ∙ c.step-2.ensures labels groups are ∙ ap (step_end labels groups c.args.limit c.args.from.end) step ∙ f.leads) in
    ap Some (one_arrival c.args.path next.path c.in_ok-end.end next.end (sym is) same)
