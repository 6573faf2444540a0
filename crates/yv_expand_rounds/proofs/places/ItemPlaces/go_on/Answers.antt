use Rattle.std.proofs.Common.{List, sym, subst, ℕ, [], ◌∷◌}
use Rattle.yv_expand_rounds.specs.declared.end.End.{End}
use Rattle.yv_expand_rounds.specs.InnerArrivals.{AreMet}
use Rattle.yv_expand_rounds.proofs.PathArrivals.{gains_weaker, meets_any, on_ok}
use Rattle.yv_expand_rounds.proofs.Meeting.{met_from_case}
use Rattle.yv_expand_rounds.proofs.places.ItemPlaces.go_on.Goals as goal

pub returns-in-ShorthandCase-clause-finds : goal.returns-in-ShorthandCase-clause-finds
returns-in-ShorthandCase-clause-finds c = λ labels groups all are tree.
    let items : List ℕ = c.in-ShorthandCase.item ∷ [] in
    let met : AreMet labels groups c.args.limit c.args.from.end items =
    subst (λ (e : End). AreMet labels groups c.args.limit e items) (sym c.in-ShorthandCase.is) (met_from_case labels groups c.args.limit c.in-ShorthandCase.item) in
    on_ok c.meet_all.result (c.meet_all.ensures.finds labels groups all are tree)
    (λ g. gains_weaker _ _ _ _ _ g (λ a f. meets_any labels groups c.args.limit all c.args.from a items met f))

pub returns-in-Some-clause-finds : goal.returns-in-Some-clause-finds
returns-in-Some-clause-finds c = λ labels groups all are tree.
    let items : List ℕ = c.in-Some.items.now in
    let met : AreMet labels groups c.args.limit c.args.from.end items = c.in-Some.ensures labels groups are in
    on_ok c.meet_all-in-Some.result (c.meet_all-in-Some.ensures.finds labels groups all are tree)
    (λ g. gains_weaker _ _ _ _ _ g (λ a f. meets_any labels groups c.args.limit all c.args.from a items met f))
