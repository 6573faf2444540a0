-- Keywords (RFC 7950, sections 6.1.2 and 6.3.1).
use Rattle.std.specs.Prelude.{◌≡◌, ℕ, IsTrue, ◌⊎◌, List, ◌∷◌, ◌++◌}
use Rattle.yv_text_if_feature.specs.Names.{is_identifier}
use Rattle.yv_source.specs.Characters.{colon}

-- an identifier, or two joined by a colon
abbrev pub IsKeyword : List ℕ → Type 0
IsKeyword text =
    IsTrue (is_identifier text)
    ⊎ ((prefix : List ℕ) × (name : List ℕ) × (text ≡ prefix ++ colon ∷ name)
    × IsTrue (is_identifier prefix) × IsTrue (is_identifier name))
