-- Inner definitions: items as they are laid out. Public clauses cite `laid_in` alone.
use Rattle.std.specs.Prelude.{◌≡◌, ℕ, ◌+◌, ◌<◌, ◌≤◌, ◌^◌, List, length, Some, slice_get}
use Rattle.yv_link_scopes.specs.Rows.{Row}
use Rattle.yv_expand_uses.specs.Spots.{LayoutView, Whole, copies_of}
use Rattle.yv_expand_uses.specs.declared.layout.Layout.{Layout}
use Rattle.yv_expand_uses.specs.declared.spot.Spot.{Spot}

abbrev pub laid_in : Layout → LayoutView
laid_in l = record { spots = l.spots.items; copies = l.copies }

-- the copies that an item adds have numbers of things in memory
abbrev pub IsNumbered : List Row → Spot → Type 0
IsNumbered rows s = s.first + copies_of rows s < 2 ^ 63

-- those of all items do
abbrev pub AreNumbered : List Row → List Spot → Type 0
AreNumbered rows spots = (k : ℕ) (s : Spot) → slice_get spots k ≡ Some s → IsNumbered rows s

-- an item is within so many groups and copies
pub record Fits (w : Whole) (total : ℕ) (s : Spot) : Type 0 where
  pub group : s.group < w.items + 1 + total
  pub copies : s.first + copies_of w.rows s ≤ total

abbrev pub AllFit : Whole → ℕ → List Spot → Type 0
AllFit w total spots = (k : ℕ) (s : Spot) → slice_get spots k ≡ Some s → Fits w total s

-- all items are within what there is
pub record AreLaid (w : Whole) (l : LayoutView) : Type 0 where
  pub all : AllFit w l.copies l.spots
  pub modules : length w.augments ≤ l.copies
  pub long : length l.spots ≡ w.items
