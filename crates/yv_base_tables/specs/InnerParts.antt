-- Only private clauses cite this: a list cut into parts.
use Rattle.std.specs.Prelude.{◌≡◌, ℕ, zero, suc, ◌≤◌, List, [], ◌∷◌, slice_index_or}
use Rattle.std.specs.List.{slice_range}

-- what comes before each of these ends, after the end before it
abbrev pub parts : List ℕ → ℕ → List ℕ → List (List ℕ)
parts numbers from [] = []
parts numbers from (end ∷ ends) = slice_range numbers from end ∷ parts numbers end ends

-- they don't fall, and the last part ends where the list does
abbrev pub AreEnds : ℕ → List ℕ → ℕ → Type 0
AreEnds from [] all = from ≡ all
AreEnds from (end ∷ ends) all = (from ≤ end) × AreEnds end ends all

-- where a part begins
abbrev pub start_of : (from : ℕ) → List ℕ → ℕ → ℕ
start_of from ends zero = from
start_of from ends (suc place) = slice_index_or ends place 0
