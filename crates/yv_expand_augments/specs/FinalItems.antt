-- What is known of items when augments were applied; how, only the readers ask.
use Rattle.std.specs.Prelude.{◌≡◌, ℕ, List, length}
use Rattle.std.specs.BTreeMap.{get}
use Rattle.std.specs.Ordering.{nat_cmp}
use Rattle.yv_text_statement.specs.Order.{IsLeast}
use Rattle.yv_expand.specs.Tree.{Item}
use Rattle.yv_expand_rounds.specs.Turns.{State}
use Rattle.yv_expand_rounds.specs.Placements.{StandOnce}
use Rattle.yv_expand_rounds.specs.Tree.{AreRows}
use Rattle.yv_expand_rounds.specs.InnerState.{IsAugmentation}
use Rattle.yv_expand_refines.specs.Targets.{all_meant}
use Rattle.yv_expand_uses.specs.Spots.{Whole, labels_of, layout_of}
use Rattle.yv_expand_uses.specs.Ends.{end_at}
use Rattle.yv_expand_augments.specs.Augmentation.{AreAugmented}
use Rattle.yv_expand_augments.specs.RefineMeanings.{refined_all}
use Rattle.yv_expand_augments.specs.MissingTargets.{MissesAt}
use Rattle.yv_expand_augments.specs.declared.augmentation.AugmentedItems.{AugmentedItems}
use Rattle.yv_expand_augments.specs.declared.final_tree.AugmentedTree.{AugmentedTree}

-- these items are so, each once
pub record AreAugmentedItems (w : Whole) (items : List Item) (st : State)
    (augmented_items : AugmentedItems) : Type 0 where
  pub grafted : AreAugmented w items st
  pub each : length (layout_of w items).spots ≡ length items
  pub once : StandOnce (length items) st.groups
  pub spots : augmented_items.spots.items ≡ (layout_of w items).spots
  pub missing : (i : ℕ)
      → IsLeast (MissesAt w (layout_of w items) (end_at items i) i)
      (get nat_cmp augmented_items.missing i)
  pub refined : all_meant augmented_items.refined ≡ refined_all w items
  pub augmentation : IsAugmentation (labels_of (layout_of w items).spots) st
      augmented_items.augmentation

-- this is the final tree of items that are so
pub record AreAugmentedTree (w : Whole) (items : List Item) (st : State)
    (full_tree : AugmentedTree) : Type 0 where
  pub grafted : AreAugmented w items st
  pub tree : AreRows (labels_of (layout_of w items).spots) st.groups full_tree.tree.items
  pub spots : full_tree.spots.items ≡ (layout_of w items).spots
  pub refined : all_meant full_tree.refined ≡ refined_all w items
  pub missing : (i : ℕ)
      → IsLeast (MissesAt w (layout_of w items) (end_at items i) i)
      (get nat_cmp full_tree.missing i)
