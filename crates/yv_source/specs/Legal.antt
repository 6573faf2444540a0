-- Which characters a text may have, and how many bytes.
use Rattle.std.specs.Prelude.{◌≡◌, ℕ, ◌≤◌, ◌<◌, IsTrue, IsFalse, List, ◌∷◌, ◌++◌, length, encode_utf8_all, IsUtf8}
use Rattle.std.specs.List.{list_all}
use Rattle.std.specs.Str.{chars}
pub use Rattle.yv_text_statement.specs.Legal.{is_legal}

-- 4 MiB, a limit of this compiler
abbrev pub most_bytes : ℕ
most_bytes = 4194304

-- bytes past the limit
abbrev pub IsTooLarge : List ℕ → Type 0
IsTooLarge bytes = most_bytes < length bytes

-- bytes within it that aren't text
abbrev pub IsNoText : List ℕ → Type 0
IsNoText bytes = (length bytes ≤ most_bytes) × (IsUtf8 bytes → ⊥)

-- bytes within it that are one
abbrev pub IsText : List ℕ → Type 0
IsText bytes = (length bytes ≤ most_bytes) × IsUtf8 bytes

-- a text within the limit whose characters are all legal
abbrev pub IsLegalText : List ℕ → Type 0
IsLegalText text = (length text ≤ most_bytes) × IsTrue (list_all is_legal (chars text))

-- the bytes of such a text
abbrev pub IsLegalFile : List ℕ → Type 0
IsLegalFile bytes = IsUtf8 bytes × IsLegalText bytes

-- the first character that isn't legal is at this offset
abbrev pub IsIllegalAt : List ℕ → ℕ → Type 0
IsIllegalAt text at =
    (front : List ℕ) × (c : ℕ) × (rest : List ℕ) × (chars text ≡ front ++ c ∷ rest)
    × IsTrue (list_all is_legal front) × IsFalse (is_legal c)
    × (at ≡ length (encode_utf8_all front))
