use Rattle.std.proofs.Common.{◌≡◌, ◌<◌, ℕ, List, length, get_or, map, sym, ◌∙◌, ap, subst, arith}
use Rattle.std.specs.BTreeMap.{get}
use Rattle.std.specs.Ordering.{nat_cmp}
use Rattle.std.specs.declared.vec.Vec.{Vec}
use Rattle.std.specs.declared.alloc.Global.{Global}
use Rattle.std.proofs.lemmas.List.{length-map}
use Rattle.yv_text_statement.specs.Order.{IsLeast}
use Rattle.yv_expand_rounds.specs.declared.label.Label.{Label}
use Rattle.yv_expand_rounds.specs.Turns.{State}
use Rattle.yv_expand_rounds.specs.Placements.{HaveEntered, StandOnce}
use Rattle.yv_expand_rounds.specs.Rounds.{AreApplied}
use Rattle.yv_expand_rounds.specs.InnerState.{IsAugmentation}
use Rattle.yv_expand_uses.specs.Paths.{module_paths}
use Rattle.yv_expand_augments.specs.Augmentation.{placement}
use Rattle.yv_expand_uses.specs.Spots.{LayoutView, Whole, labels_of, layout_of}
use Rattle.yv_expand_augments.specs.FinalItems.{AreAugmentedItems}
use Rattle.yv_expand_uses.specs.InnerLayout.{AreLaid, laid_in}
use Rattle.yv_expand_uses.specs.InnerPlan.{whole_in}
use Rattle.yv_expand_augments.specs.declared.augmentation.AugmentedItems.{AugmentedItems}
use Rattle.yv_expand_uses.specs.Ends.{end_at}
use Rattle.yv_expand_augments.specs.MissingTargets.{MissesAt}
use Rattle.yv_expand_augments.specs.RefineMeanings.{refine_meanings}
use Rattle.yv_expand_augments.proofs.Meaning.{refined_same}
use Rattle.yv_expand_augments.proofs.UsesAugmentRefusals.{missing_same}
use Rattle.yv_expand_uses.proofs.Bounds.{laid_whole}
use Rattle.yv_expand_augments.proofs.ItemEntry.{placed_ends, whole_entered}
use Rattle.yv_expand_augments.proofs.augmentation.apply_augments.Goals as goal

pub place-requires-clause-lays : goal.place-requires-clause-lays
place-requires-clause-lays c =
    let w : Whole = whole_in c.in_ok-plan.plan in
    let long : length c.args.items.now ≡ w.items = sym (ap (λ (v : Whole). v.items) c.in_ok-plan.ensures.whole) in
    subst (AreLaid w) (sym c.in_ok-layout.ensures.lays) (laid_whole w c.args.items.now long)

pub place-requires-clause-few : goal.place-requires-clause-few
place-requires-clause-few c = c.in_ok-layout.ensures.few

pub returns : goal.returns
returns c =
    let w : Whole = whole_in c.in_ok-plan.plan in
    let items = c.args.items.now in
    let long : length items ≡ w.items = sym (ap (λ (v : Whole). v.items) c.in_ok-plan.ensures.whole) in
    let l : LayoutView = layout_of w items in
    let labels : List Label = labels_of l.spots in
    let old : State = placement w l in
    let are : AreLaid w l = laid_whole w items long in
    let lists : Vec ℕ Global → List ℕ = λ p. p.items in
    let ready : IsAugmentation labels old c.in_ok-augmentation.field-0.augmentation =
    subst (λ (x : LayoutView). IsAugmentation (labels_of x.spots) (placement w x) c.in_ok-augmentation.field-0.augmentation) c.in_ok-layout.ensures.lays c.in_ok-augmentation.ensures.state in
    let paths : map lists c.deref-2.result.now ≡ module_paths w = ap (map lists) c.deref-2.ensures.value ∙ c.in_ok-paths.ensures in
    let ends = placed_ends w labels l.copies c.turns_keep_augments.ensures 0 l.spots in
    let count : length c.deref-2.result.now ≡ length w.augments =
    sym (length-map c.deref-2.result.now lists) ∙ ap length paths ∙ length-map w.augments _ in
    let modules = are.modules in
    let (new, applied, augmentation) = c.in_ok-augmentation-2.ensures labels old ready (omega (arith, ends, count, modules)) in
    let known : AreApplied labels 0 (module_paths w) old new = subst (λ (ps : List (List ℕ)). AreApplied labels 0 ps old new) paths applied in
    let size : length (module_paths w) ≡ length w.augments = length-map w.augments _ in
    let entered : HaveEntered labels l.copies 0 old = whole_entered w items long in
    let once : StandOnce (length labels) new.groups =
    c.each_item_stands_once.ensures.applies labels l.copies 0 (module_paths w) old new entered (omega (arith, size, modules)) known in
    let all : length labels ≡ length items = length-map l.spots (λ s. s.label) ∙ are.long ∙ sym long in
    let augmented_items : AugmentedItems = record { spots = c.in_ok-layout.layout.spots; missing = c.in_ok-augmentation.field-0.missing; refined = c.in_ok-augmentation.field-0.refined; augmentation = c.in_ok-augmentation-2.augmentation } in
    let size_of : length c.in_ok-layout.layout.spots.items ≡ length items = ap (λ (x : LayoutView). length x.spots) c.in_ok-layout.ensures.lays ∙ are.long ∙ sym long in
    let told_end : (i : ℕ) → i < length items → get_or c.deref.result.now i 0 ≡ end_at items i =
    λ i lt. (ap (λ (xs : List ℕ). get_or xs i 0) c.deref.ensures.value ∙ c.in_ok-ends.ensures.at i lt) in
    let made : AreAugmentedItems w items new augmented_items = record {
      grafted = record { applied = known };
      each = are.long ∙ sym long;
      once = subst (λ (n : ℕ). StandOnce n new.groups) all once;
      spots = ap (λ (x : LayoutView). x.spots) c.in_ok-layout.ensures.lays;
      missing = λ i. subst (λ (x : LayoutView). IsLeast (MissesAt w x (end_at items i) i) (get nat_cmp c.in_ok-augmentation.field-0.missing i)) c.in_ok-layout.ensures.lays
          (missing_same w (laid_in c.in_ok-layout.layout) _ (end_at items i) i _ (λ lt. told_end i (omega (arith, lt, size_of))) (c.in_ok-augmentation.ensures.lacks i));
      refined = c.in_ok-augmentation.ensures.refines
          ∙ refined_same w (labels_of (laid_in c.in_ok-layout.layout).spots) (laid_in c.in_ok-layout.layout).copies _ (end_at items) 0 (laid_in c.in_ok-layout.layout).spots
          (λ k lt. told_end k (omega (arith, lt, size_of)))
          ∙ ap (λ (x : LayoutView). refine_meanings w x (end_at items)) c.in_ok-layout.ensures.lays;
      augmentation = augmentation;
    } in
    (new, subst (λ (v : Whole). AreAugmentedItems v items new augmented_items) c.in_ok-plan.ensures.whole made)
