use Rattle.std.proofs.Common.{rules, ◌≡◌, ◌+◌, ◌-◌, ◌<◌, ◌≤◌, ℕ, List, None, Some, length, drop, get_or, refl, sym, ◌∙◌, ap, subst, arith}
use Rattle.std.specs.BTreeMap.{get}
use Rattle.std.specs.List.{slice_get}
use Rattle.std.specs.Ordering.{nat_cmp}
use Rattle.std.proofs.lemmas.List.{drop_all, length-map}
use Rattle.std.proofs.lemmas.Option.{slice_get-get_or}
use Rattle.yv_text_statement.specs.Order.{IsLeast}
use Rattle.yv_expand_rounds.specs.declared.label.Label.{Label}
use Rattle.yv_expand_rounds.specs.Turns.{State}
use Rattle.yv_expand_rounds.specs.Placements.{nothing}
use Rattle.yv_expand_rounds.specs.InnerState.{IsAugmentation}
use Rattle.yv_expand_refines.specs.Targets.{all_meant}
use Rattle.yv_expand_augments.specs.Augmentation.{placed_from, turns}
use Rattle.yv_expand_uses.specs.Spots.{Whole, copies_of, labels_of}
use Rattle.yv_expand_uses.specs.InnerLayout.{Fits, laid_in}
use Rattle.yv_expand_uses.specs.InnerPlan.{whole_in}
use Rattle.yv_expand_augments.specs.MissingTargets.{MissesAt, MissesOf}
use Rattle.yv_expand_uses.specs.declared.spot.Spot.{Spot}
use Rattle.yv_expand_augments.proofs.ItemEntry.{placed_ends, placed_more}
use Rattle.yv_expand_augments.specs.RefineMeanings.{refined_from}
use Rattle.yv_expand_augments.proofs.Meaning.{refined_more}
use Rattle.yv_expand_augments.proofs.UsesAugmentRefusals.{missing_before, missing_here, missing_more, missing_past}
use Rattle.yv_expand_augments.proofs.augmentation.place.Goals as goal

pub loop-left-init : goal.loop-left-init
loop-left-init c =
    let w : Whole = whole_in c.args.plan.now in
    let spots : List Spot = c.args.layout.now.spots.items in
    let copies : ℕ = c.args.layout.now.copies in
    let told : c.in_ok-labels.labels.items ≡ labels_of spots = c.in_ok-labels.ensures ∙ ap labels_of c.deref.ensures.value in
    let base : IsAugmentation (labels_of spots) (nothing (length (labels_of spots)) copies) c.in_ok-augmentation.augmentation =
    subst (λ (ls : List Label). IsAugmentation ls (nothing (length ls) copies) c.in_ok-augmentation.augmentation) told c.in_ok-augmentation.ensures in
    let none : drop c.len-left.result spots ≡ drop (length spots) spots = ap (λ (n : ℕ). drop n spots) (omega (arith, c.len-left.ensures)) in
    let empty : (i : ℕ) → get nat_cmp c.new-missing.result i ≡ None = λ i. search rules in
    record {
      within = omega (arith, c.len-left.ensures);
      fresh = λ i lt. empty i;
      state = subst (λ (l : List Spot). IsAugmentation (labels_of spots) (placed_from w (labels_of spots) copies c.len-left.result l) c.in_ok-augmentation.augmentation)
          (sym (none ∙ drop_all (length spots) spots (omega arith))) base;
      refine_targets = c.new-refine_targets.ensures.refine_targets w;
      schedules = c.new-schedules.ensures w;
      refined = c.new-refine_targets.ensures.means ∙ sym (ap (λ (l : List Spot). refined_from w (labels_of spots) copies (λ i. get_or c.args.ends.now i 0) c.len-left.result l)
          (none ∙ drop_all (length spots) spots (omega arith)));
      told = λ i le. (
          let past : length spots ≤ i = omega (arith, c.len-left.ensures, le) in
          subst (IsLeast (MissesAt w (laid_in c.args.layout.now) (get_or c.args.ends.now i 0) i)) (sym (empty i))
          (missing_past w (laid_in c.args.layout.now) (get_or c.args.ends.now i 0) i past));
    }

pub turns-requires-clause-few : goal.turns-requires-clause-few
turns-requires-clause-few c =
    let spots : List Spot = c.args.layout.now.spots.items in
    let left : ℕ = c.loop-left.left in
    let n : ℕ = left - 1 in
    let inside : n < length spots = omega (arith, c.loop-left-test.true, c.loop-left.invariant.within) in
    let s : Spot = c.index-spot.result.now in
    let at : slice_get spots n ≡ Some s = slice_get-get_or spots n s inside ∙ ap Some (sym c.index-spot.ensures) in
    let fit = (c.requires.lays.all n s at).copies in
    let few = c.requires.few in
    omega (arith, fit, few)

pub loop-left-preserved : goal.loop-left-preserved
loop-left-preserved c =
    let w : Whole = whole_in c.args.plan.now in
    let spots : List Spot = c.args.layout.now.spots.items in
    let labels : List Label = labels_of spots in
    let copies : ℕ = c.args.layout.now.copies in
    let left : ℕ = c.loop-left.left in
    let n : ℕ = left - 1 in
    let next : left ≡ n + 1 = omega (arith, c.loop-left-test.true) in
    let inside : n < length spots = omega (arith, c.loop-left-test.true, c.loop-left.invariant.within) in
    let s : Spot = c.index-spot.result.now in
    let at : slice_get spots n ≡ Some s = slice_get-get_or spots n s inside ∙ ap Some (sym c.index-spot.ensures) in
    let st : State = placed_from w labels copies left (drop left spots) in
    let fit : Fits w copies s = c.requires.lays.all n s at in
    let long : length labels ≡ w.items = length-map spots (λ x. x.label) ∙ c.requires.lays.long in
    let ends = placed_ends w labels copies c.turns_keep_augments.ensures left (drop left spots) in
    let room : s.first + copies_of w.rows s ≤ length st.ends = (let f = fit.copies in omega (arith, f, ends)) in
    let refused = subst (λ (e : ℕ). IsLeast (MissesOf w labels s e st) c.in_ok-turned.turned.missing) c.end_of-end.ensures
    (c.in_ok-turned.ensures.lacks labels st c.loop-left.invariant.state long room) in
    let ready = c.in_ok-turned.ensures.state labels st c.loop-left.invariant.state long room in
    record {
      within = omega (arith, inside);
      fresh = missing_before w (laid_in c.args.layout.now) n left c.in_ok-turned.turned.missing (get nat_cmp c.loop-left.missing) (get nat_cmp c.note.new.missing) next
          c.in_ok-note.ensures c.loop-left.invariant.fresh;
      state = subst (λ (x : State). IsAugmentation labels x c.enter.new.self) (placed_more w labels copies n left s spots (turns w labels s st) next at refl)
          (c.in_ok-enter.ensures labels (turns w labels s st) ready);
      refine_targets = c.in_ok-refine_all.ensures.refine_targets;
      schedules = c.in_ok-turned.ensures.schedules;
      refined = refined_more w labels copies (λ i. get_or c.args.ends.now i 0) n left s spots c.end_of-end.result (all_meant c.loop-left.refine_targets.refinements) _ next at c.end_of-end.ensures
          (c.in_ok-refine_all.ensures.means labels st c.loop-left.invariant.state) c.loop-left.invariant.refined;
      told = missing_more w (laid_in c.args.layout.now) c.args.ends.now n left c.in_ok-turned.turned.missing (get nat_cmp c.loop-left.missing) (get nat_cmp c.note.new.missing) next
          (c.loop-left.invariant.fresh n (omega (arith, next))) c.in_ok-note.ensures
          (missing_here w (laid_in c.args.layout.now) (get_or c.args.ends.now n 0) n left s _ next at refused) c.loop-left.invariant.told;
    }

pub returns-clause-state : goal.returns-clause-state
returns-clause-state c =
    let w : Whole = whole_in c.args.plan.now in
    let spots : List Spot = c.args.layout.now.spots.items in
    let none : c.loop-left.left ≡ 0 = omega (arith, c.loop-left-test.false) in
    subst (λ (n : ℕ). IsAugmentation (labels_of spots) (placed_from w (labels_of spots) c.args.layout.now.copies n (drop n spots)) c.loop-left.augmentation) none c.loop-left.invariant.state
