-- The parts of a buffer in which they lie one after the other.
use Rattle.std.specs.Prelude.{◌≡◌, ◌≤◌, ◌-◌, ℕ, List, [], ◌∷◌, drop, length, take}

-- The parts of some bytes by the places where they end, of which the first begins at a place: each
-- begins where the one before it ends, none ends before it begins, and none ends past the bytes.
abbrev pub ArePartsFrom : (place : ℕ) → (bytes ends : List ℕ) → (parts : List (List ℕ)) → Type 0
ArePartsFrom place bytes [] parts = parts ≡ []
ArePartsFrom place bytes (end ∷ ends) [] = ⊥
ArePartsFrom place bytes (end ∷ ends) (part ∷ parts) = (place ≤ end) × (end ≤ length bytes)
    × (part ≡ take (end - place) (drop place bytes)) × ArePartsFrom end bytes ends parts

-- these are the parts of some bytes
abbrev pub AreParts : (bytes ends : List ℕ) → (parts : List (List ℕ)) → Type 0
AreParts bytes ends parts = ArePartsFrom 0 bytes ends parts

-- the ends fall, or lie past the bytes
abbrev pub HaveNoParts : (bytes ends : List ℕ) → Type 0
HaveNoParts bytes ends = (parts : List (List ℕ)) → AreParts bytes ends parts → ⊥
