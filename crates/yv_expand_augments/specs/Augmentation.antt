-- What augments make of the expansion of files (RFC 7950, sections 7.13 and 7.17).
use Rattle.std.specs.Prelude.{ℕ, ◌+◌, ◌-◌, List, [], ◌∷◌, length, if◌then◌else◌, slice_index_or}
use Rattle.yv_expand.specs.Tree.{Item}
use Rattle.yv_expand_uses.specs.Paths.{module_paths, path_in}
use Rattle.yv_expand_rounds.specs.declared.label.Label.{Label}
use Rattle.yv_expand_rounds.specs.Groups.{group_of_augment, members_of}
use Rattle.yv_expand_rounds.specs.Turns.{State, turn}
use Rattle.yv_expand_rounds.specs.Placements.{nothing, enter}
use Rattle.yv_expand_rounds.specs.Rounds.{AreApplied}
use Rattle.yv_expand_statements.specs.Kinds.{is_uses}
use Rattle.yv_expand_uses.specs.AugmentOrder.{augments_giving}
use Rattle.yv_expand_uses.specs.Spots.{LayoutView, Whole, layout_of, labels_of}
use Rattle.yv_expand_uses.specs.declared.spot.Spot.{Spot}

-- the last of a list
abbrev pub last_of : List ℕ → ℕ
last_of items = slice_index_or items (length items - 1) 0

-- The turn of the numbered copy of an augment of a uses: its path begins where the uses is, and
-- leads to what comes before the first item that it gives, which is the last of these to have
-- entered.
abbrev pub copy_turn : Whole → List Label → Spot → (number augment : ℕ) → State → State
copy_turn w labels s number augment st =
    turn labels number s.group (last_of (members_of st.groups (group_of_augment labels number)))
    (path_in w s.module_file augment) st

-- the turns of these augments of a `uses`, one after the other
abbrev pub turns_from : Whole → List Label → Spot → (number : ℕ) → List ℕ → State → State
turns_from w labels s number [] st = st
turns_from w labels s number (a ∷ others) st =
    turns_from w labels s (number + 1) others (copy_turn w labels s number a st)

-- the turns of the augments of a uses, in order
abbrev pub turns : Whole → List Label → Spot → State → State
turns w labels s st = if is_uses s.label.kind
    then turns_from w labels s s.first (augments_giving w.rows s.statement) st else st

-- The items from this number on have entered, from the last to the first: before a uses enters, its
-- augments have their turns. So what the paths of these meet is there, with what inner augments
-- gave.
abbrev pub placed_from : Whole → (labels : List Label) → (copies first : ℕ) → List Spot → State
placed_from w labels copies i [] = nothing (length labels) copies
placed_from w labels copies i (s ∷ others) =
    enter i s.group (turns w labels s (placed_from w labels copies (i + 1) others))

-- where all items are once each `uses` has applied its augments
abbrev pub placement : Whole → LayoutView → State
placement w l = placed_from w (labels_of l.spots) l.copies 0 l.spots

-- where items are when all augments were applied: first those of uses, and then those of modules in
-- rounds
pub record AreAugmented (w : Whole) (items : List Item) (st : State) : Type 0 where
  pub applied : AreApplied (labels_of (layout_of w items).spots) 0 (module_paths w)
      (placement w (layout_of w items)) st
