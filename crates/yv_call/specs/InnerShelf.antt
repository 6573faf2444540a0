-- Only private clauses cite this: how a shelf changes.
use Rattle.std.specs.Prelude.{◌≡◌, ℕ, List, Option, Some, Bool, true, false, if◌then◌else◌}
use Rattle.std.specs.Str.{bytes_eq}

-- a document was put on it under a name
abbrev pub Gains : (name document : List ℕ) → (old new : List ℕ → Option (List ℕ)) → Type 0
Gains name document old new =
    (n : List ℕ) → new n ≡ (if bytes_eq name n then Some document else old n)

-- The document of a name is on it now, and it was before or the name had none; or another is.
abbrev pub Keeps : (name document : List ℕ) → (old new : List ℕ → Option (List ℕ)) → Bool → Type 0
Keeps name document old new true = (new name ≡ Some document)
    × ((n x : List ℕ) → old n ≡ Some x → new n ≡ Some x)
    × ((n x : List ℕ) → new n ≡ Some x → (lookup : List ℕ → Option (List ℕ))
    → ((m y : List ℕ) → old m ≡ Some y → lookup m ≡ Some y) → lookup name ≡ Some document
    → lookup n ≡ Some x)
Keeps name document old new false =
    (other : List ℕ) × (old name ≡ Some other) × (other ≡ document → ⊥)
