-- Places where something was kept, as a list of numbers.
use Rattle.std.specs.Prelude.{◌≡◌, ℕ, ◌≤◌, ◌⊎◌, ◌↔◌, List, [], ◌∷◌}

-- the place is one of these
abbrev pub IsPlace : List ℕ → ℕ → Type 0
IsPlace [] p = ⊥
IsPlace (x ∷ xs) p = (x ≡ p) ⊎ IsPlace xs p

-- the same places and one more
abbrev pub AddsPlace : List ℕ → List ℕ → ℕ → Type 0
AddsPlace old new p = (q : ℕ) → IsPlace new q ↔ (IsPlace old q ⊎ (q ≡ p))

-- one of these places, and none of them is less
abbrev pub IsLeastPlace : List ℕ → ℕ → Type 0
IsLeastPlace xs p = IsPlace xs p × ((q : ℕ) → IsPlace xs q → p ≤ q)

-- one of these places lies from the first to the last
abbrev pub HasBetween : List ℕ → ℕ → ℕ → Type 0
HasBetween xs first last = (p : ℕ) × IsPlace xs p × (first ≤ p) × (p ≤ last)
