-- Only private clauses cite this: how a text of notes grows.
use Rattle.std.specs.Prelude.{◌≡◌, ◌⊎◌, ℕ, List, ◌++◌}

-- a note came after the others, or there was no memory for it
abbrev pub Gets : (note old new : List ℕ) → Type 0
Gets note old new = (new ≡ old ++ note) ⊎ (new ≡ old)
