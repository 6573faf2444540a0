-- Only private clauses cite this: texts in the order of their bytes.
use Rattle.std.specs.Prelude.{◌≡◌, ℕ, List, [], ◌∷◌, Bool, false, ⊤}
use Rattle.std.specs.Cmp.Lexicographic.{slice_cmp}
use Rattle.std.specs.List.Sorted.{IsPermutation}
use Rattle.std.specs.Ordering.{is_lt, nat_cmp}

-- the one comes before the other
abbrev pub is_below : List ℕ → List ℕ → Bool
is_below x y = is_lt (slice_cmp nat_cmp x y)

-- none of these texts comes before this one
abbrev pub NoneBelow : List ℕ → List (List ℕ) → Type 0
NoneBelow x [] = ⊤
NoneBelow x (y ∷ ys) = (is_below y x ≡ false) × NoneBelow x ys

-- no text comes after one that is above it
abbrev pub Ascends : List (List ℕ) → Type 0
Ascends [] = ⊤
Ascends (x ∷ xs) = NoneBelow x xs × Ascends xs

-- these are the same texts, in ascending order
abbrev pub Arranges : List (List ℕ) → List (List ℕ) → Type 0
Arranges xs ys = IsPermutation xs ys × Ascends ys
