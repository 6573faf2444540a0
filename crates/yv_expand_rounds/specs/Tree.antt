-- The final tree: where items are when all augments were applied (RFC 7950, section 7.17).
use Rattle.std.specs.Prelude.{◌≡◌, ℕ, ◌+◌, ◌<◌, ◌⊎◌, List, [], ◌∷◌, ◌++◌, Option, Some, None, slice_get}
use Rattle.std.specs.List.Sorted.{IsPermutation, IsSorted}
use Rattle.yv_expand_rounds.specs.declared.label.Label.{Label}
use Rattle.yv_expand_rounds.specs.declared.row.ItemRow.{ItemRow}
use Rattle.yv_expand_rounds.specs.Groups.{Groups, members_of}
use Rattle.yv_expand_rounds.specs.Order.{sibling_cmp}

-- The items of a group in order: first those that no augment of a module gives, by their numbers,
-- so that what a block gives comes before what augments of uses give, inner ones first; and then
-- those that augments of modules give, by their numbers.
pub record AreInOrder (labels : List Label) (groups : Groups) (g : ℕ)
    (items : List ℕ) : Type 0 where
  pub permutation : IsPermutation (members_of groups g) items
  pub sorted : IsSorted (sibling_cmp labels) items

-- items of one parent, in order: the number of the first, the items below it, and those after it
pub data Tree : Type 0 where
  none : Tree
  item : (number : ℕ) → (below behind : Tree) → Tree

-- these items, each with all that is below it, make this tree
pub data Make (labels : List Label) (groups : Groups) : List ℕ → Tree → Type 0 where
  no_items : Make labels groups [] none
  one_more : {i : ℕ} {items others : List ℕ} {below behind : Tree}
      → AreInOrder labels groups (i + 1) items → Make labels groups items below
      → Make labels groups others behind → Make labels groups (i ∷ others) (item i below behind)

-- the whole tree: what is at the top, with all that is below
abbrev pub IsTree : List Label → Groups → Tree → Type 0
IsTree labels groups t =
    (items : List ℕ) × AreInOrder labels groups 0 items × Make labels groups items t

-- the items of a tree as a list, each before those below it, and these before those after it
abbrev pub tree_list : (parent : Option ℕ) → (depth : ℕ) → Tree → List ItemRow
tree_list parent depth none = []
tree_list parent depth (item i below behind) =
    record { number = i; parent = parent; depth = depth }
    ∷ (tree_list (Some i) (depth + 1) below ++ tree_list parent depth behind)

-- the group of what is below an item, or at the top
abbrev pub group_under : (parent : Option ℕ) → ℕ
group_under None = 0
group_under (Some i) = i + 1

-- these are the items of the final tree in order, those at the top having depth 1
pub record AreRows (labels : List Label) (groups : Groups) (rows : List ItemRow) : Type 0 where
  pub tree : Tree
  pub is_tree : IsTree labels groups tree
  pub rows_are : rows ≡ tree_list None 1 tree

-- an item is below another, whose row comes before its own, one level deeper
pub record StandsBelow (rows : List ItemRow) (k : ℕ) (row : ItemRow) : Type 0 where
  pub above : ItemRow
  pub place : ℕ
  pub before : place < k
  pub at : slice_get rows place ≡ Some above
  pub parent : row.parent ≡ Some above.number
  pub depth : row.depth ≡ above.depth + 1

-- an item is at the top, or below another
abbrev pub StandsInTree : List ItemRow → (k : ℕ) → ItemRow → Type 0
StandsInTree rows k row = ((row.parent ≡ None) × (row.depth ≡ 1)) ⊎ StandsBelow rows k row
