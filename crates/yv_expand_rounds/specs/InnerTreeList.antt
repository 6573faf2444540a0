-- Only private clauses cite this: what a stack of items gives.
use Rattle.std.specs.Prelude.{ℕ, ◌+◌, ◌≤◌, List, [], ◌∷◌, ◌++◌, map, Option, Some}
use Rattle.yv_expand_rounds.specs.declared.group.Group.{Group}
use Rattle.yv_expand_rounds.specs.declared.label.Label.{Label}
use Rattle.yv_expand_rounds.specs.declared.row.ItemRow.{ItemRow}
use Rattle.yv_expand_rounds.specs.Groups.{Groups, times}
use Rattle.yv_expand_rounds.specs.Tree.{Tree, AreInOrder, Make, tree_list}

-- the items of groups
abbrev pub groups_in : List Group → Groups
groups_in groups = map (λ g. g.members.items) groups

abbrev pub row : (parent : Option ℕ) → (depth number : ℕ) → ItemRow
row parent depth i = record { number = i; parent = parent; depth = depth }

-- items of one parent
abbrev pub under : (parent : Option ℕ) → (depth : ℕ) → List ℕ → List ItemRow
under parent depth items = map (row parent depth) items

-- nothing is there twice
abbrev pub StandAtMostOnce : Groups → Type 0
StandAtMostOnce groups = (i : ℕ) → times i groups ≤ 1

-- these items with their parents and depths give these rows, each with what is below it
pub data Each (labels : List Label) (groups : Groups) : List ItemRow → List ItemRow → Type 0 where
  none_left : Each labels groups [] []
  item_then : {w : ItemRow} {items : List ℕ} {others rows : List ItemRow} {below : Tree}
      → AreInOrder labels groups (w.number + 1) items
      → Make labels groups items below → Each labels groups others rows
      → Each labels groups (w ∷ others)
      (w ∷ (tree_list (Some w.number) (w.depth + 1) below ++ rows))
