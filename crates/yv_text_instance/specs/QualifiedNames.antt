-- Names with their modules (RFC 7951, section 4).
use Rattle.std.specs.Prelude.{◌≡◌, ℕ, true, List, ◌∷◌, ◌++◌}
use Rattle.yv_text_if_feature.specs.Bytes.{colon}
use Rattle.yv_text_if_feature.specs.Names.{is_identifier}

-- the identifier of a module, a colon and an identifier
pub data IsQualifiedName : List ℕ → Type 0 where
  qualified : (owner name : List ℕ) {text : List ℕ} → is_identifier owner ≡ true
      → is_identifier name ≡ true → text ≡ owner ++ colon ∷ name → IsQualifiedName text
