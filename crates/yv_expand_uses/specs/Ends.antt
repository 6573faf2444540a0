-- Where the items below an item end.
use Rattle.std.specs.Prelude.{ℕ, ◌+◌, nat_le, Bool, false, List, [], ◌∷◌, drop, if◌then◌else◌, Option, Some, None}
use Rattle.yv_expand.specs.Tree.{Item}

-- the parent of an item is this item or a later one
abbrev pub is_above : ℕ → Option ℕ → Bool
is_above i None = false
is_above i (Some p) = nat_le i p

-- an item is below the one of this number, or below one after it
abbrev pub is_from : ℕ → Item → Bool
is_from i x = is_above i x.parent

-- how many of these are so, up to the first that doesn't
abbrev pub run_length : ℕ → List Item → ℕ
run_length i [] = 0
run_length i (x ∷ xs) = if is_from i x then 1 + run_length i xs else 0

-- the number after the last item below this one
abbrev pub end_at : List Item → ℕ → ℕ
end_at items i = i + 1 + run_length i (drop (i + 1) items)
