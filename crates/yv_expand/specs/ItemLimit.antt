-- A list of items that keeps to a limit.
use Rattle.std.specs.Prelude.{◌≡◌, ◌<◌, ℕ, List, Some, slice_get}
use Rattle.yv_expand.specs.Tree.{Item}

-- what contracts see of an `Expansion`: its limit, how many items the memory that was asked for has
-- room for, and the items
pub record WithinLimit : Type 0 where
  pub limit : ℕ
  pub capacity : ℕ
  pub items : List Item

-- each parent comes before its items
abbrev pub ParentsComeFirst : List Item → Type 0
ParentsComeFirst items =
    (i p : ℕ) (item : Item) → slice_get items i ≡ Some item → item.parent ≡ Some p → p < i
