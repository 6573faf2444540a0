-- The types that need no typedef.
use Rattle.std.specs.Prelude.{ℕ, Bool, List, [], ◌∷◌, codes}
use Rattle.yv_text_statement.specs.Words.{is_among}

-- RFC 7950, section 4.2.4
abbrev pub built_ins : List (List ℕ)
built_ins =
    codes "binary" ∷ codes "bits" ∷ codes "boolean" ∷ codes "decimal64" ∷ codes "empty"
    ∷ codes "enumeration" ∷ codes "identityref" ∷ codes "instance-identifier" ∷ codes "int8"
    ∷ codes "int16" ∷ codes "int32" ∷ codes "int64" ∷ codes "leafref" ∷ codes "string"
    ∷ codes "uint8" ∷ codes "uint16" ∷ codes "uint32" ∷ codes "uint64" ∷ codes "union" ∷ []

-- whether a name is that of a built-in type; one with a prefix isn't
unfoldable pub is_built_in : List ℕ → Bool
is_built_in name = is_among built_ins name
