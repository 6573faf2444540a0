-- The final tree by an explicit stack.
use Rattle.std.proofs.Common.{subst, ◌≡◌, ℕ, ◌+◌, List, [], ◌∷◌, ◌++◌, refl, sym, ◌∙◌, ap, append-nil, Option, Some, None}
use Rattle.std.proofs.lemmas.List.{append_assoc}
use Rattle.yv_expand_rounds.specs.declared.label.Label.{Label}
use Rattle.yv_expand_rounds.specs.declared.row.ItemRow.{ItemRow}
use Rattle.yv_expand_rounds.specs.Groups.{Groups}
use Rattle.yv_expand_rounds.specs.Tree.{Tree, none, item, AreInOrder, Make, no_items, one_more, tree_list, AreRows}
use Rattle.yv_expand_rounds.specs.InnerTreeList.{row, under, Each, none_left, item_then}

-- items of one parent at the front make a tree, and the rows of this stand at the front
record Split (labels : List Label) (groups : Groups) (parent : Option ℕ) (depth : ℕ) (items : List ℕ) (others rows : List ItemRow) : Type 0 where
  pub tree : Tree
  pub make : Make labels groups items tree
  pub rest : List ItemRow
  pub behind : Each labels groups others rest
  pub rows_are : rows ≡ tree_list parent depth tree ++ rest

split : (labels : List Label) (groups : Groups) (parent : Option ℕ) (depth : ℕ) (items : List ℕ) (others rows : List ItemRow)
    → Each labels groups (under parent depth items ++ others) rows → Split labels groups parent depth items others rows
split labels groups parent depth [] others rows e = record { tree = none; make = no_items; rest = rows; behind = e; rows_are = refl }
split labels groups parent depth (i ∷ items) others rows (item_then {rows = later} {below = below} order makes e) =
    let s = split labels groups parent depth items others later e in
    record {
      tree = item i below s.tree;
      make = one_more order makes s.make;
      rest = s.rest;
      behind = s.behind;
      rows_are =
          ap (λ x. row parent depth i ∷ (tree_list (Some i) (depth + 1) below ++ x)) s.rows_are
          ∙ ap (λ x. row parent depth i ∷ x) (sym (append_assoc (tree_list (Some i) (depth + 1) below) (tree_list parent depth s.tree) s.rest));
    }

-- an item is taken from the stack, and what stands below it is put there in order
pub step : (labels : List Label) (groups : Groups) (w : ItemRow) (items : List ℕ) (others rows : List ItemRow) → AreInOrder labels groups (w.number + 1) items
    → Each labels groups (under (Some w.number) (w.depth + 1) items ++ others) rows → Each labels groups (w ∷ others) (w ∷ rows)
step labels groups w items others rows order e =
    let s = split labels groups (Some w.number) (w.depth + 1) items others rows e in
    subst (λ x. Each labels groups (w ∷ others) (w ∷ x)) (sym s.rows_are) (item_then order s.make s.behind)

none_behind : (labels : List Label) (groups : Groups) (rest : List ItemRow) → Each labels groups [] rest → rest ≡ []
none_behind labels groups [] none_left = refl
none_behind labels groups (r ∷ rest) e = elim e [ ]

-- what the stack gives that began with the items of the top is the final tree
pub whole : (labels : List Label) (groups : Groups) (items : List ℕ) (rows : List ItemRow) → AreInOrder labels groups 0 items → Each labels groups (under None 1 items) rows → AreRows labels groups rows
whole labels groups items rows order e =
    let s = split labels groups None 1 items [] rows (subst (λ x. Each labels groups x rows) (sym (append-nil (under None 1 items))) e) in
    record {
      tree = s.tree;
      is_tree = (items, order, s.make);
      rows_are = s.rows_are ∙ ap (λ x. tree_list None 1 s.tree ++ x) (none_behind labels groups s.rest s.behind) ∙ append-nil (tree_list None 1 s.tree);
    }
