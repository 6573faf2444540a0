-- What an expansion shows when its items have entered and the augments of its uses have had their
-- turns.
use Rattle.std.specs.Prelude.{◌≡◌, ℕ, List, length, None, Some, slice_get}
use Rattle.std.specs.List.{Contains}
use Rattle.yv_link_scopes.specs.Rows.{Row}
use Rattle.yv_expand.specs.Tree.{Item, count, item_list}
use Rattle.yv_expand.specs.Tree as expansion
use Rattle.yv_expand.specs.Expands.{Expands}
use Rattle.yv_expand_augments.specs.Augmentation.{placement}
use Rattle.yv_expand_uses.specs.Spots.{Whole, labels_of, layout_of, top_group}
use Rattle.yv_expand_definition.specs.Expansion.{AllRefer}
use Rattle.yv_expand_definition.specs.Nodes.{Forest}
use Rattle.yv_expand_laws.specs.Blocks.{Block}
use Rattle.yv_expand_laws.specs.Comes.{Comes}
use Rattle.yv_expand_laws.specs.Shows.{Items, Shows}
use Rattle.yv_expand_laws.specs.ItemProperties.{AreItems}

-- the items of an expansion lie in this block, and they show at the top what it gives
pub record ShowsBlock (w : Whole) (items : List Item) (n : ℕ) : Type 0 where
  pub copies : ℕ
  pub block : Block 0 n (length w.augments) copies
  pub shows : (its : Items) (f : Forest) → AreItems w items its
      → Comes (labels_of (layout_of w items).spots) its _ _ _ _ block f
      → Shows its (placement w (layout_of w items)).groups 0 0 n f

-- Statements of which all are at the top, and none in the block of an augment of a module, show
-- what they give.
abbrev pub StartShows : Whole → Type 0
StartShows w =
    (numbers : List ℕ) (t : expansion.Tree) → Expands w.files w.rows numbers t
    → AllRefer w.files w.rows → w.items ≡ count t
    → ((k : ℕ) (r : Row) → Contains numbers k → slice_get w.rows k ≡ Some r
    → top_group w (Some r) ≡ 0) → ShowsBlock w (item_list None 0 t) (count t)
