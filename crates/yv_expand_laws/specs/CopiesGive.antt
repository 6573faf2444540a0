-- What a copy of an augment of a uses gives is below the node to which it adds (RFC 7950, sections
-- 7.13 and 7.17).
use Rattle.std.specs.Prelude.{◌≡◌, ℕ, ◌+◌, ◌<◌, true, List, length, drop, None, Some, slice_get}
use Rattle.yv_expand.specs.Tree.{Item}
use Rattle.yv_expand_rounds.specs.Tree.{IsTree, Tree, tree_list}
use Rattle.yv_expand_rounds.specs.Turns.{State}
use Rattle.yv_expand_rounds.specs.declared.row.ItemRow.{ItemRow}
use Rattle.yv_expand_uses.specs.Ends.{end_at}
use Rattle.yv_expand_uses.specs.AugmentOrder.{is_giving}
use Rattle.yv_expand_augments.specs.Augmentation.{AreAugmented, placed_from}
use Rattle.yv_expand_statements.specs.Kinds.{is_uses}
use Rattle.yv_expand_uses.specs.Spots.{Whole, copy_group, labels_of, layout_of}
use Rattle.yv_expand_augments.specs.MissingTargets.{after_turns, next_number, node_reached}
use Rattle.yv_expand_uses.specs.AugmentOrder.{augments_in}
use Rattle.yv_expand_uses.specs.declared.spot.Spot.{Spot}

-- an item of the final tree that is laid after a uses, in the group of a copy of one of its
-- augments, is below the node to which this added in its turn
abbrev pub CopiesGive : Type 0
CopiesGive =
    (w : Whole) (items : List Item) (st : State) (t : Tree) (k i place augment : ℕ) (row : ItemRow)
    (s given : Spot) → w.items ≡ length items
    → AreAugmented w items st → IsTree (labels_of (layout_of w items).spots) st.groups t
    → slice_get (tree_list None 1 t) k ≡ Some row
    → slice_get (layout_of w items).spots row.number ≡ Some given
    → slice_get (layout_of w items).spots i ≡ Some s → i < row.number
    → is_uses s.label.kind ≡ true → slice_get (augments_in w.rows s.statement) place ≡ Some augment
    → is_giving w.rows s.statement augment ≡ true
    → given.group ≡ copy_group w (next_number w.rows s place)
    → (p : ℕ) × (row.parent ≡ Some p)
    × (node_reached w (labels_of (layout_of w items).spots) s (end_at items i)
    (next_number w.rows s place) augment
    (after_turns w (labels_of (layout_of w items).spots) s place
    (placed_from w (labels_of (layout_of w items).spots) (layout_of w items).copies (i + 1)
    (drop (i + 1) (layout_of w items).spots))) ≡ Some p)
