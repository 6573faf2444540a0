use Rattle.std.proofs.Common.{◌≡◌, ◌<◌, ◌≤◌, ℕ, None, length, drop, get_or}
use Rattle.std.specs.BTreeMap.{get}
use Rattle.std.specs.Ordering.{nat_cmp}
use Rattle.yv_text_statement.specs.Order.{IsLeast}
use Rattle.yv_expand_rounds.specs.InnerState.{IsAugmentation}
use Rattle.yv_expand_refines.specs.Targets.{all_meant}
use Rattle.yv_expand_augments.specs.Augmentation.{placed_from}
use Rattle.yv_expand_uses.specs.Spots.{labels_of}
use Rattle.yv_expand_augments.specs.RefineMeanings.{refined_from}
use Rattle.yv_expand_augments.specs.MissingTargets.{MissesAt}
use Rattle.yv_expand_uses.specs.InnerRefineTargets.{AreRefineTargets}
use Rattle.yv_expand_uses.specs.InnerLayout.{laid_in}
use Rattle.yv_expand_uses.specs.InnerPlan.{whole_in}
use Rattle.yv_expand_augments.specs.InnerSchedule.{AreSchedules}
use Rattle.yv_expand_augments.proofs.augmentation.place.Given as goal

abbrev pub invariant-loop-left : goal.invariant-loop-left
invariant-loop-left l = record {
  within : l.left ≤ length l.layout.spots.items;
  fresh : (i : ℕ) → i < l.left → get nat_cmp l.missing i ≡ None;
  state : IsAugmentation (labels_of l.layout.spots.items)
      (placed_from (whole_in l.plan) (labels_of l.layout.spots.items) l.layout.copies l.left (drop l.left l.layout.spots.items)) l.augmentation;
  refine_targets : AreRefineTargets (whole_in l.plan) l.refine_targets;
  schedules : AreSchedules (whole_in l.plan) l.schedules;
  refined : all_meant l.refine_targets.refinements
      ≡ refined_from (whole_in l.plan) (labels_of l.layout.spots.items) l.layout.copies (λ i. get_or l.ends i 0) l.left (drop l.left l.layout.spots.items);
  told : (i : ℕ) → l.left ≤ i → IsLeast (MissesAt (whole_in l.plan) (laid_in l.layout) (get_or l.ends i 0) i) (get nat_cmp l.missing i);
}

abbrev pub decreases-loop-left : goal.decreases-loop-left
decreases-loop-left l = l.left
