-- Where the copy of an augment of a uses ends when all augments were applied (RFC 7950, sections
-- 7.13 and 7.17).
use Rattle.std.specs.Prelude.{◌≡◌, ℕ, ◌+◌, true, List, length, drop, Some, slice_get}
use Rattle.yv_expand.specs.Tree.{Item}
use Rattle.yv_expand_rounds.specs.Turns.{State, target_of}
use Rattle.yv_expand_uses.specs.Ends.{end_at}
use Rattle.yv_expand_uses.specs.AugmentOrder.{is_giving}
use Rattle.yv_expand_augments.specs.Augmentation.{AreAugmented, placed_from}
use Rattle.yv_expand_statements.specs.Kinds.{is_uses}
use Rattle.yv_expand_uses.specs.Spots.{Whole, labels_of, layout_of}
use Rattle.yv_expand_augments.specs.MissingTargets.{after_turns, next_number, node_reached}
use Rattle.yv_expand_uses.specs.AugmentOrder.{augments_in}
use Rattle.yv_expand_uses.specs.declared.spot.Spot.{Spot}

-- when all augments were applied, a copy of an augment of a uses that gives something adds to the
-- node to which it added in its turn, and to none where it added to none
abbrev pub CopiesEnd : Type 0
CopiesEnd =
    (w : Whole) (items : List Item) (st : State) (i place augment : ℕ) (s : Spot)
    → w.items ≡ length items → AreAugmented w items st
    → slice_get (layout_of w items).spots i ≡ Some s → is_uses s.label.kind ≡ true
    → slice_get (augments_in w.rows s.statement) place ≡ Some augment
    → is_giving w.rows s.statement augment ≡ true
    → target_of (labels_of (layout_of w items).spots) st.ends (next_number w.rows s place)
    ≡ node_reached w (labels_of (layout_of w items).spots) s (end_at items i)
    (next_number w.rows s place) augment
    (after_turns w (labels_of (layout_of w items).spots) s place
    (placed_from w (labels_of (layout_of w items).spots) (layout_of w items).copies (i + 1)
    (drop (i + 1) (layout_of w items).spots)))
