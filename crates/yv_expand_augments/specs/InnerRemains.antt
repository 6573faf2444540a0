-- Only private clauses cite this: items of a list that are kept, one by one.
use Rattle.std.specs.Prelude.{ℕ, ◌&&◌, nat_lt, not, Bool, false, List, [], ◌∷◌, if◌then◌else◌, Option, Some, None}
use Rattle.yv_expand_rounds.specs.declared.row.ItemRow.{ItemRow}

-- an item is below one of this depth that isn't kept
abbrev pub is_below : Option ℕ → ℕ → Bool
is_below None depth = false
is_below (Some cut) depth = nat_lt cut depth

-- the depth of an item that isn't kept, after which those below it stand
abbrev pub cut_after : Option ℕ → Bool → ℕ → Option ℕ
cut_after cut kept depth = if is_below cut depth then cut else (if kept then None else Some depth)

abbrev pub is_left_under : Option ℕ → Bool → ℕ → Bool
is_left_under cut kept depth = not (is_below cut depth) && kept

abbrev pub one_if : Bool → ItemRow → List ItemRow
one_if is_left x = if is_left then x ∷ [] else []

abbrev pub scan : (is_kept : ℕ → Bool) → Option ℕ → List ItemRow → List ItemRow
scan is_kept cut [] = []
scan is_kept cut (x ∷ xs) =
    if is_below cut x.depth then scan is_kept cut xs
    else (if is_kept x.number then x ∷ scan is_kept None xs else scan is_kept (Some x.depth) xs)
