-- Only private clauses cite this: nodes put below their parents one by one.
use Rattle.std.specs.Prelude.{◌≡◌, ℕ, ◌+◌, List, [], ◌∷◌, ◌++◌, Option, Some, None, slice_set, slice_index_or}
use Rattle.yv_expand.specs.Tree.{Node}
use Rattle.yv_schema.specs.Families.{lists_of}
use Rattle.yv_schema.specs.declared.families.ChildLists.{ChildLists}

-- the numbers at the top, and those below each node
pub record Lists : Type 0 where
  pub top : List ℕ
  pub below : List (List ℕ)

abbrev pub lists_in : ChildLists → Lists
lists_in f = record { top = f.top.items; below = lists_of f.below.items }

-- one number more, at the top or below a node
abbrev pub hang : ℕ → Option ℕ → Lists → Lists
hang number None s = record { top = s.top ++ number ∷ []; below = s.below }
hang number (Some p) s =
    record { top = s.top; below = slice_set s.below p (slice_index_or s.below p [] ++ number ∷ []) }

-- nodes from this number on
abbrev pub hang_all : ℕ → List Node → Lists → Lists
hang_all number [] s = s
hang_all number (x ∷ xs) s = hang_all (number + 1) xs (hang number x.parent s)

abbrev pub AreEmpty : List (List ℕ) → Type 0
AreEmpty lists = (k : ℕ) → slice_index_or lists k [] ≡ []
