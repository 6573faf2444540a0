-- Tokens with blanks.
use Rattle.std.specs.Prelude.{◌≡◌, ℕ, true, List, [], ◌∷◌, ◌++◌}
use Rattle.yv_text_if_feature.specs.Bytes.{is_blank}

-- a text is these tokens in order, with blanks before, between and after them, or none
pub data AreSpaced : List (List ℕ) → List ℕ → Type 0 where
  nothing : AreSpaced [] []
  blank : {tokens : List (List ℕ)} {b : ℕ} {text : List ℕ} → is_blank b ≡ true
      → AreSpaced tokens text → AreSpaced tokens (b ∷ text)
  token : {tokens : List (List ℕ)} {first rest text : List ℕ} → AreSpaced tokens rest
      → text ≡ first ++ rest → AreSpaced (first ∷ tokens) text
