use Rattle.std.proofs.Common.{◌≡◌, ℕ, List, Option, true, false, Some, ap, sym, subst, ◌∙◌}
use Rattle.std.specs.List.{slice_get}
use Rattle.std.specs.Option.{option_map}
use Rattle.std.proofs.lemmas.Option.{none-some, same_Some}
use Rattle.yv_base_tables.specs.Fronts.{GoesOn}
use Rattle.yv_expand_rounds.specs.declared.end.End.{End}
use Rattle.yv_expand_rounds.specs.declared.label.Label.{Label}
use Rattle.yv_expand_rounds.specs.Groups.{Groups}
use Rattle.yv_expand_rounds.specs.Paths.{step_end}
use Rattle.yv_expand_rounds.specs.InnerArrivals.{is_at}
use Rattle.yv_expand_rounds.proofs.PathArrivals.{one_arrival}
use Rattle.yv_expand_rounds.proofs.Meeting.{met_name}
use Rattle.yv_expand_rounds.proofs.places.ItemPlaces.meet.Goals as goal

-- the name of the item is the step
step_of : (labels : List Label) (groups : Groups) (limit : ℕ) (e next : End) (item step : ℕ) → step_end labels groups limit e step ≡ Some next → is_at next item ≡ true
    → (kept : List Label) (name : Option ℕ) → kept ≡ labels → name ≡ option_map (λ (l : Label). l.name) (slice_get kept item) → name ≡ Some step
step_of labels groups limit e next item step h is kept name same told =
    told ∙ ap (λ (ls : List Label). option_map (λ (l : Label). l.name) (slice_get ls item)) same ∙ met_name labels groups limit e next item step h is

pub returns-in_err-name-clause-all : goal.returns-in_err-name-clause-all
returns-in_err-name-clause-all c = λ labels groups all next are tree f is.
    let name = step_of labels groups c.args.limit c.args.from.end next.end c.args.item f.step f.leads is c.args.self.now.labels.items c.name_of.result are.labels_are c.name_of.ensures in
    absurd (none-some f.step (sym c.in_err-name.was ∙ name))

pub returns-in_err-path-clause-all : goal.returns-in_err-path-clause-all
returns-in_err-path-clause-all c = λ labels groups all next are tree f is.
    let name = step_of labels groups c.args.limit c.args.from.end next.end c.args.item f.step f.leads is c.args.self.now.labels.items c.name_of.result are.labels_are c.name_of.ensures in
    let same : c.in_ok-name.name ≡ f.step = same_Some c.in_ok-name.name f.step (sym c.in_ok-name.was ∙ name) in
    let goes : GoesOn all c.args.from.path c.in_ok-name.name next.path = subst (λ (n : ℕ). GoesOn all c.args.from.path n next.path) (sym same) f.path in
    absurd (none-some next.path (sym c.in_err-path.was ∙ c.next.ensures.all all next.path tree goes))

pub returns-in_err-end-clause-all : goal.returns-in_err-end-clause-all
returns-in_err-end-clause-all c = λ labels groups all next are tree f is.
    let name = step_of labels groups c.args.limit c.args.from.end next.end c.args.item f.step f.leads is c.args.self.now.labels.items c.name_of.result are.labels_are c.name_of.ensures in
    let same : c.in_ok-name.name ≡ f.step = same_Some c.in_ok-name.name f.step (sym c.in_ok-name.was ∙ name) in
    absurd (none-some next.end (sym c.in_err-end.was ∙ c.step.ensures labels groups are ∙ ap (step_end labels groups c.args.limit c.args.from.end) same ∙ f.leads))

pub returns-then-is_at-clause-some : goal.returns-then-is_at-clause-some
returns-then-is_at-clause-some c = λ labels groups all are tree. record {
  step = c.in_ok-name.name;
  path = c.in_ok-path.ensures.some all tree;
  leads = sym (c.step.ensures labels groups are) ∙ c.in_ok-end.was;
}

pub returns-then-is_at-clause-all : goal.returns-then-is_at-clause-all
returns-then-is_at-clause-all c = λ labels groups all next are tree f is.
    let name = step_of labels groups c.args.limit c.args.from.end next.end c.args.item f.step f.leads is c.args.self.now.labels.items c.name_of.result are.labels_are c.name_of.ensures in
    let same : c.in_ok-name.name ≡ f.step = same_Some c.in_ok-name.name f.step (sym c.in_ok-name.was ∙ name) in
    let goes : GoesOn all c.args.from.path c.in_ok-name.name next.path = subst (λ (n : ℕ). GoesOn all c.args.from.path n next.path) (sym same) f.path in
    let path : c.in_ok-path.path ≡ next.path = same_Some c.in_ok-path.path next.path (sym c.in_ok-path.was ∙ c.next.ensures.all all next.path tree goes) in
    let there : c.in_ok-end.end ≡ next.end =
    same_Some c.in_ok-end.end next.end (sym c.in_ok-end.was ∙ c.step.ensures labels groups are ∙ ap (step_end labels groups c.args.limit c.args.from.end) same ∙ f.leads) in
    ap Some (one_arrival c.in_ok-path.path next.path c.in_ok-end.end next.end path there)

pub returns-else-is_at-clause-all : goal.returns-else-is_at-clause-all
returns-else-is_at-clause-all c = λ labels groups all next are tree f is.
    let name = step_of labels groups c.args.limit c.args.from.end next.end c.args.item f.step f.leads is c.args.self.now.labels.items c.name_of.result are.labels_are c.name_of.ensures in
    let same : c.in_ok-name.name ≡ f.step = same_Some c.in_ok-name.name f.step (sym c.in_ok-name.was ∙ name) in
    let there : c.in_ok-end.end ≡ next.end =
    same_Some c.in_ok-end.end next.end (sym c.in_ok-end.was ∙ c.step.ensures labels groups are ∙ ap (step_end labels groups c.args.limit c.args.from.end) same ∙ f.leads) in
    absurd (let bad : false ≡ true = sym c.if-is_at.false ∙ c.is_at.ensures ∙ ap (λ (e : End). is_at e c.args.item) there ∙ is in cc)
