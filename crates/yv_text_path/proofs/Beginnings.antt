-- How paths begin.
use Rattle.std.proofs.Common.{◌≡◌, ◌⊎◌, inl, inr, ℕ, List, ◌∷◌, refl}
use Rattle.yv_text_path.specs.Paths.{IsRelativePath, IsPath, absolute, relative, once, again}

begins_up : {text bare : List ℕ} {names : List (List ℕ)} → IsRelativePath text bare names → (rest : List ℕ) × (text ≡ 46 ∷ 46 ∷ 47 ∷ rest)
begins_up (once {text} d) = (text, refl)
begins_up (again {text} r) = (text, refl)

-- a path begins with `/`, or with `../`
pub begins : {text bare : List ℕ} {names : List (List ℕ)} → IsPath text bare names
    → ((rest : List ℕ) × (text ≡ 47 ∷ rest)) ⊎ ((rest : List ℕ) × (text ≡ 46 ∷ 46 ∷ 47 ∷ rest))
begins (absolute {text} d) = inl (text, refl)
begins (relative r) = inr (begins_up r)
