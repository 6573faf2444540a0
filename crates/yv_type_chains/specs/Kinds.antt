-- The substatements of a type of which each built-in type takes some (RFC 7950, sections 9.2 to
-- 9.13).
use Rattle.std.specs.Prelude.{ℕ, ◌&&◌, not, Bool, List, [], ◌∷◌, codes}
use Rattle.std.specs.List.{list_any}
use Rattle.std.specs.Str.{bytes_eq}
use Rattle.yv_text_statement.specs.Words.{is_among}

-- those that say something on the values
abbrev pub restrictions : List (List ℕ)
restrictions =
    codes "range" ∷ codes "fraction-digits" ∷ codes "length" ∷ codes "pattern" ∷ codes "enum"
    ∷ codes "bit" ∷ codes "base" ∷ codes "path"
    ∷ codes "require-instance" ∷ codes "type" ∷ []

-- those that only the built-in type itself takes, and no type that is derived from it
abbrev pub of_built_in : List (List ℕ)
of_built_in = codes "fraction-digits" ∷ codes "path" ∷ codes "base" ∷ codes "type" ∷ []

-- each built-in type with each that it takes
abbrev pub substatements_taken : List (List ℕ × List ℕ)
substatements_taken =
    (codes "int8", codes "range") ∷
    (codes "int16", codes "range") ∷
    (codes "int32", codes "range") ∷
    (codes "int64", codes "range") ∷
    (codes "uint8", codes "range") ∷
    (codes "uint16", codes "range") ∷
    (codes "uint32", codes "range") ∷
    (codes "uint64", codes "range") ∷
    (codes "decimal64", codes "range") ∷
    (codes "decimal64", codes "fraction-digits") ∷
    (codes "string", codes "length") ∷
    (codes "string", codes "pattern") ∷
    (codes "binary", codes "length") ∷
    (codes "enumeration", codes "enum") ∷
    (codes "bits", codes "bit") ∷
    (codes "identityref", codes "base") ∷
    (codes "leafref", codes "path") ∷
    (codes "leafref", codes "require-instance") ∷
    (codes "union", codes "type") ∷
    (codes "instance-identifier", codes "require-instance") ∷ []

-- each with that which it must have
abbrev pub substatements_needed : List (List ℕ × List ℕ)
substatements_needed =
    (codes "decimal64", codes "fraction-digits") ∷
    (codes "enumeration", codes "enum") ∷
    (codes "bits", codes "bit") ∷
    (codes "identityref", codes "base") ∷
    (codes "leafref", codes "path") ∷
    (codes "union", codes "type") ∷ []

-- a table has a kind with this word
abbrev pub has_pair : List (List ℕ × List ℕ) → List ℕ → List ℕ → Bool
has_pair pairs kind word = list_any (λ p. bytes_eq p.0 kind && bytes_eq p.1 word) pairs

-- a table has a kind at all
abbrev pub has_kind : List (List ℕ × List ℕ) → List ℕ → Bool
has_kind pairs kind = list_any (λ p. bytes_eq p.0 kind) pairs

-- a built-in type doesn't take this restriction
unfoldable pub is_foreign : List ℕ → List ℕ → Bool
is_foreign kind word = is_among restrictions word && not (has_pair substatements_taken kind word)

-- a derived type doesn't take it
unfoldable pub is_of_built_in : List ℕ → Bool
is_of_built_in word = is_among of_built_in word

-- a built-in type must have it
unfoldable pub needs : List ℕ → List ℕ → Bool
needs kind word = has_pair substatements_needed kind word

-- there is one that it must have
unfoldable pub needs_any : List ℕ → Bool
needs_any kind = has_kind substatements_needed kind
