-- What `placed_from` of yv_expand_augments does with spots is what is told of spots here.
use Rattle.std.proofs.Common.{◌≡◌, ℕ, ◌+◌, Bool, true, false, if◌then◌else◌, List, [], ◌∷◌, length, map, refl, ◌∙◌, ap}
use Rattle.yv_expand_rounds.specs.declared.label.Label.{Label}
use Rattle.yv_expand_rounds.specs.Placements.{enter, nothing}
use Rattle.yv_expand_rounds.specs.Turns.{State}
use Rattle.yv_expand_uses.specs.AugmentOrder.{augments_giving}
use Rattle.yv_expand_augments.specs.Augmentation as augmented
use Rattle.yv_expand_uses.specs.Paths.{path_in}
use Rattle.yv_expand_augments.specs.Augmentation.{placed_from}
use Rattle.yv_expand_statements.specs.Kinds.{is_uses}
use Rattle.yv_expand_uses.specs.Spots.{Whole}
use Rattle.yv_expand_uses.specs.declared.spot.Spot.{Spot}
use Rattle.yv_expand_laws.specs.Expansions.{spot_view}
use Rattle.yv_expand_laws.specs.Layout as laid
use Rattle.yv_expand_laws.specs.Layout.{placed_on}

module _ (w : Whole) (labels : List Label) where
  turns_are : (s : Spot) (number : ℕ) (augments : List ℕ) (st : State)
      → augmented.turns_from w labels s number augments st ≡ laid.turns_from labels (spot_view w s) number (map (path_in w s.module_file) augments) st
  turns_are s number [] st = refl
  turns_are s number (a ∷ others) st = turns_are s (number + 1) others (augmented.copy_turn w labels s number a st)

  pub placed_is_told : (copies i : ℕ) (spots : List Spot) → placed_from w labels copies i spots ≡ placed_on labels i (map (spot_view w) spots) (nothing (length labels) copies)
  placed_is_told copies i [] = refl
  placed_is_told copies i (s ∷ others) =
      ap (λ st. enter i s.group (augmented.turns w labels s st)) (placed_is_told copies (i + 1) others)
      ∙ ap (enter i s.group) (by (is_uses s.label.kind) (placed_on labels (i + 1) (map (spot_view w) others) (nothing (length labels) copies)))
    where
      by : (b : Bool) (st : State) → (if b then augmented.turns_from w labels s s.first (augments_giving w.rows s.statement) st else st)
          ≡ (if b then laid.turns_from labels (spot_view w s) s.first (map (path_in w s.module_file) (augments_giving w.rows s.statement)) st else st)
      by true st = turns_are s s.first (augments_giving w.rows s.statement) st
      by false st = refl
