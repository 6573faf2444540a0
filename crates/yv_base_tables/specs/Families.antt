-- Numbers from 0, each at one place or at none, by place.
use Rattle.std.specs.Prelude.{ℕ, zero, suc, ◌+◌, ◌==◌, Bool, false, List, [], ◌∷◌, ◌++◌, if◌then◌else◌, Option, Some, None}

-- a number has this place
abbrev pub is_place : ℕ → Option ℕ → Bool
is_place place None = false
is_place place (Some p) = p == place

-- the numbers whose place this is, ascending, where the first of these places is that of this
-- number
abbrev pub numbers_from : (place number : ℕ) → List (Option ℕ) → List ℕ
numbers_from place number [] = []
numbers_from place number (p ∷ ps) =
    if is_place place p then number ∷ numbers_from place (number + 1) ps
    else numbers_from place (number + 1) ps

-- the numbers at a place, ascending
abbrev pub numbers_at : List (Option ℕ) → ℕ → List ℕ
numbers_at places place = numbers_from place 0 places

-- those at each of so many places
abbrev pub by_place : List (Option ℕ) → ℕ → List (List ℕ)
by_place places zero = []
by_place places (suc count) = by_place places count ++ numbers_at places count ∷ []
