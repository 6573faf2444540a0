-- Only private clauses cite this: how counts are read.
use Rattle.std.specs.Prelude.{ℕ, ◌+◌, ◌-◌, ◌*◌, nat_lt, nat_eq, nat_le, length, take, drop, min, position, ◌==◌, ◌||◌, ◌&&◌, Bool, List, [], ◌∷◌, Option, Some, None}
use Rattle.std.specs.List.{list_all}

-- the number that digits write, after one that comes before them
abbrev pub decimal_after : ℕ → List ℕ → ℕ
decimal_after n [] = n
decimal_after n (b ∷ bs) = decimal_after (10 * n + (b - 48)) bs

abbrev pub is_digit : ℕ → Bool
is_digit c = nat_le 48 c && nat_le c 57

-- the number that digits write, or 1001 where it is above 1000
abbrev pub number_of : List ℕ → ℕ
number_of ds = min (decimal_after 0 ds) 1001

-- one digit or more, and the number is at most 1000
unfoldable pub is_bound : List ℕ → Bool
is_bound ds = nat_lt 0 (length ds) && (list_all is_digit ds && nat_le (number_of ds) 1000)

-- a bound and no other, or two bounds of which the second isn't less
unfoldable pub are_in_order : List ℕ → List ℕ → Bool
are_in_order low high =
    is_bound low && (nat_eq (length high) 0
    || (is_bound high && nat_le (number_of low) (number_of high)))

-- one bound, or what is on either side of the comma
abbrev pub are_bounds : List ℕ → Option ℕ → Bool
are_bounds inner None = is_bound inner
are_bounds inner (Some i) = are_in_order (take i inner) (drop (i + 1) inner)

-- what is between the braces says how often
unfoldable pub is_count : List ℕ → Bool
is_count inner = are_bounds inner (position (λ c. c == 44) inner)
