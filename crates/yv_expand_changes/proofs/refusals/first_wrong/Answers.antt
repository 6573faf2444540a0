use Rattle.std.proofs.Common.{◌≡◌, ◌<◌, ℕ, List, [], Vec, Global, Some, get_or, length, refl, sym, ◌∙◌, eqb-true, ap, subst, arith}
use Rattle.std.specs.List.{slice_get}
use Rattle.std.proofs.lemmas.List.{nil_from_length, take_all}
use Rattle.std.proofs.lemmas.Option.{slice_get_read}
use Rattle.yv_text_statement.specs.Order.{IsLeast}
use Rattle.yv_link_scopes.specs.Views.{lent_in}
use Rattle.yv_expand_refines.specs.Targets.{meant_at, meant_from}
use Rattle.yv_expand_refines.specs.declared.targets.RefineTarget.{RefineTarget}
use Rattle.yv_expand_refines.specs.declared.targets.RefinedUses.{RefinedUses}
use Rattle.yv_expand_changes.specs.Refusals.{BadRefines}
use Rattle.yv_expand_changes.specs.InnerRefusals.{AreJudged}
use Rattle.yv_expand_changes.proofs.RefineJudgements.{copies_judged, none_judged}
use Rattle.yv_expand_changes.proofs.refusals.first_wrong.Goals as goal

pub returns-then-is_empty : goal.returns-then-is_empty
returns-then-is_empty c =
    let refine_targets : List (Vec RefineTarget Global) = c.args.refinements.now.refine_targets.items in
    let uses : List RefinedUses = c.args.refinements.now.uses.items in
    let none : uses ≡ [] = sym c.as_slice.ensures.value ∙ nil_from_length c.as_slice.result.now (eqb-true (length c.as_slice.result.now) 0 (sym c.is_empty.ensures ∙ c.if-is_empty.true)) in
    none_judged (lent_in c.args.rows.now) c.args.spots.now c.args.tree.now (meant_from refine_targets uses) (ap (meant_from refine_targets) none)

pub loop-uses-init : goal.loop-uses-init
loop-uses-init c =
    let files = lent_in c.args.rows.now in
    record {
      judged = subst (λ (refine_targets : List (Vec RefineTarget Global)). AreJudged files refine_targets c.in_ok-judged.judged.items) c.as_slice-refine_targets.ensures.value (c.in_ok-judged.ensures files);
      least = none_judged files c.args.spots.now c.args.tree.now _ refl;
    }

pub loop-uses-preserved : goal.loop-uses-preserved
loop-uses-preserved c =
    let files = lent_in c.args.rows.now in
    let spots = c.args.spots.now in
    let tree = c.args.tree.now in
    let refine_targets : List (Vec RefineTarget Global) = c.args.refinements.now.refine_targets.items in
    let uses : List RefinedUses = c.args.refinements.now.uses.items in
    let k : ℕ = c.loop-uses.uses-index in
    let u : RefinedUses = c.uses-item.result in
    let within : k < length uses = omega (arith, c.loop-uses-test.true, ap length c.deref-uses-items.ensures.value) in
    let at : slice_get uses k ≡ Some u = slice_get_read uses _ k u refl within (c.uses-item.is ∙ ap (λ (us : List RefinedUses). get_or us k u) c.deref-uses-items.ensures.value) in
    let now : IsLeast (BadRefines files spots (meant_at refine_targets u) tree) c.in_ok-wrong.wrong =
    subst (λ (l : List (Vec RefineTarget Global)). IsLeast (BadRefines files spots (meant_at l u) tree) c.in_ok-wrong.wrong) c.as_slice-refine_targets.ensures.value (c.in_ok-wrong.ensures.least tree c.in_ok-items.ensures)
    in
    record {
      judged = subst (λ (l : List (Vec RefineTarget Global)). AreJudged files l c.wrong.new.judged.items) c.as_slice-refine_targets.ensures.value c.in_ok-wrong.ensures.judges;
      least = copies_judged files spots tree refine_targets uses k u c.loop-uses.least c.in_ok-wrong.wrong c.lesser-least.result at c.lesser-least.ensures c.loop-uses.invariant.least now;
    }

pub returns : goal.returns
returns c =
    let refine_targets : List (Vec RefineTarget Global) = c.args.refinements.now.refine_targets.items in
    let uses : List RefinedUses = c.args.refinements.now.uses.items in
    subst (λ (us : List RefinedUses). IsLeast (BadRefines (lent_in c.args.rows.now) c.args.spots.now (meant_from refine_targets us) c.args.tree.now) c.loop-uses.least)
    (take_all c.loop-uses.uses-index uses (omega (arith, c.loop-uses-test.false, ap length c.deref-uses-items.ensures.value))) c.loop-uses.invariant.least
