-- Only private clauses cite this: the first paths that lead to items.
use Rattle.std.specs.Prelude.{◌≡◌, ℕ, ◌&&◌, nat_lt, Bool, true, false, List, [], ◌∷◌, Option, Some, None}
use Rattle.std.specs.Ordering.{nat_cmp}
use Rattle.std.specs.BTreeMap.{BTreeMap, get}
use Rattle.yv_expand_changes.specs.InnerAlike.{first_from}

-- an item comes after another one, if there is one
abbrev pub is_after : (last : Option ℕ) → (target : Option ℕ) → Bool
is_after last None = false
is_after None (Some b) = true
is_after (Some a) (Some b) = nat_lt a b

-- each path leads to an item, which comes after that of the path before
abbrev pub are_rising : (last : Option ℕ) → List (Option ℕ) → Bool
are_rising last [] = true
are_rising last (t ∷ ts) = is_after last t && are_rising t ts

-- this tells of each item the first path that leads to it; where nothing is kept, items rise
abbrev pub AreFirsts : (targets : List (Option ℕ)) → Option (BTreeMap ℕ ℕ) → Type 0
AreFirsts targets None = are_rising None targets ≡ true
AreFirsts targets (Some firsts) = (item : ℕ) → get nat_cmp firsts item ≡ first_from 0 targets item
