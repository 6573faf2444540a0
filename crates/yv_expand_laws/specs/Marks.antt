-- Which groups have items that augments of modules give.
use Rattle.std.specs.Prelude.{◌≡◌, ℕ, ◌+◌, ◌≤◌, Bool, List, length, map, Some, is_some, slice_get}
use Rattle.yv_expand.specs.Tree.{Item}
use Rattle.yv_expand_rounds.specs.Order.{is_given}
use Rattle.yv_expand_uses.specs.Spots.{Whole, source_in, labels_of, layout_of}
use Rattle.yv_expand_laws.specs.Blocks.{Block}
use Rattle.yv_expand_laws.specs.Comes.{MarksBlock}
use Rattle.yv_expand_laws.specs.Expansions.{spot_view}
use Rattle.yv_expand_laws.specs.Layout.{Lie, Spot}

-- the group is that of what an augment of a module gives
abbrev pub mark_of : Whole → ℕ → Bool
mark_of w g = is_some (source_in w.items w.augments g)

-- In a block of an expansion the items of a group have its mark: an augment of a module gives all
-- of them, or none.
abbrev pub BlocksAreMarked : Whole → List Item → Type 0
BlocksAreMarked w items =
    (g lo hi c e : ℕ) (block : Block lo hi c e) (spots : List Spot) → length items ≡ w.items
    → length w.augments ≤ c
    → ((j : ℕ) (s : Spot) → slice_get spots j ≡ Some s
    → slice_get (map (spot_view w) (layout_of w items).spots) (lo + j) ≡ Some s)
    → Lie (labels_of (layout_of w items).spots) g block spots
    → MarksBlock (labels_of (layout_of w items).spots)
    (is_given (labels_of (layout_of w items).spots)) (mark_of w) g block
