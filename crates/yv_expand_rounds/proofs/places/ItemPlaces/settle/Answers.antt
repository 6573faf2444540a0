use Rattle.std.proofs.Common.{◌≡◌, ℕ, List, Option, Some, sym, ◌∙◌, ap, subst}
use Rattle.yv_expand_rounds.specs.declared.label.Label.{Label}
use Rattle.yv_expand_rounds.specs.Turns.{target, give}
use Rattle.yv_expand_rounds.specs.InnerGroups.{ArePlaces}
use Rattle.yv_expand_rounds.proofs.places.ItemPlaces.settle.Goals as goal

pub returns-clause-state : goal.returns-clause-state
returns-clause-state c = λ labels groups old.
    let is : target labels c.args.end ≡ Some c.in-Some.item = ap (λ (x : List Label). target x c.args.end) (sym old.labels_are) ∙ sym c.in-Some.ensures.value in
    subst (λ (o : Option ℕ). ArePlaces labels (give c.args.from o groups) c.shift.new.self) (sym is) (c.in_ok-displaced.ensures.state labels groups old)
