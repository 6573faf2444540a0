-- The items of an expansion lie in blocks.
use Rattle.std.specs.Prelude.{◌≡◌, ℕ, ◌+◌, ◌<◌, List, length, map, Option, Some, drop, slice_get}
use Rattle.std.specs.List.{Contains}
use Rattle.yv_link_scopes.specs.Rows.{Row}
use Rattle.yv_expand.specs.Tree.{count, item_list}
use Rattle.yv_expand.specs.Tree as expansion
use Rattle.yv_expand_rounds.specs.declared.label.Label.{Label}
use Rattle.yv_expand_rounds.specs.Placements.{nothing}
use Rattle.yv_expand.specs.Expands.{Expands}
use Rattle.yv_expand_uses.specs.AugmentOrder.{augments_giving}
use Rattle.yv_expand_uses.specs.Paths.{path_in}
use Rattle.yv_expand_augments.specs.Augmentation.{placed_from}
use Rattle.yv_expand_statements.specs.Kinds.{is_uses}
use Rattle.yv_expand_uses.specs.Spots.{LayoutView, Whole, group_below, laid_from, spot_at}
use Rattle.yv_expand_uses.specs.declared.spot.Spot.{Spot}
use Rattle.yv_expand_definition.specs.Expansion.{AllRefer}
use Rattle.yv_expand_laws.specs.Blocks.{Block}
use Rattle.yv_expand_laws.specs.Layout as laid
use Rattle.yv_expand_laws.specs.Layout.{Lie, placed_on}

-- what is asked of a spot
abbrev pub spot_view : Whole → Spot → laid.Spot
spot_view w s = record {
  group = s.group;
  is_uses = is_uses s.label.kind;
  first = s.first;
  paths = map (path_in w s.module_file) (augments_giving w.rows s.statement);
}

-- The items that numbered statements give below a parent, laid after others, lie in a block: of
-- those at the top all are in the group in which `group_below` puts them. The block begins where
-- the others end.
abbrev pub ExpansionLies : Whole → List Label → Type 0
ExpansionLies w labels =
    (numbers : List ℕ) (t : expansion.Tree) (before : LayoutView) (parent : Option ℕ) (g : ℕ)
    → length labels ≡ w.items → AllRefer w.files w.rows
    → ((p : ℕ) → parent ≡ Some p → p < length before.spots) → Expands w.files w.rows numbers t
    → ((k : ℕ) (r : Row) → Contains numbers k → slice_get w.rows k ≡ Some r
    → group_below w (Some r) parent (spot_at before.spots parent) ≡ g)
    → (b : Block (length before.spots) (length before.spots + count t) before.copies
    (laid_from w (item_list parent (length before.spots) t) before).copies)
    × Lie labels g b (map (spot_view w)
    (drop (length before.spots)
    (laid_from w (item_list parent (length before.spots) t) before).spots))

-- what is made of spots is what is made of what is known of them
abbrev pub PlacedIsTold : Whole → List Label → Type 0
PlacedIsTold w labels =
    (copies first : ℕ) (spots : List Spot)
    → placed_from w labels copies first spots
    ≡ placed_on labels first (map (spot_view w) spots) (nothing (length labels) copies)
