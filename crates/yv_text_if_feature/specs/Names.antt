-- Identifiers, and names with and without a prefix (RFC 7950, sections 6.2 and 14).
use Rattle.std.specs.Prelude.{ℕ, Bool, false, ◌&&◌, ◌||◌, ◌==◌, nat_le, List, [], ◌∷◌, count_by}
use Rattle.std.specs.List.{list_all, slice_split}
use Rattle.yv_text_if_feature.specs.Bytes.{colon, dash, dot, is_digit, is_letter, underscore}

-- a letter or `_`
abbrev pub is_start : ℕ → Bool
is_start b = is_letter b || b == underscore

-- a letter, `_`, a digit, `-` or `.`
abbrev pub is_part : ℕ → Bool
is_part b = is_start b || is_digit b || b == dash || b == dot

-- an identifier is a letter or `_`, and then letters, digits, `_`, `-` and `.` (section 6.2)
abbrev pub is_identifier : List ℕ → Bool
is_identifier [] = false
is_identifier (b ∷ bs) = is_start b && list_all is_part bs

-- a name is an identifier, or two with a colon between
unfoldable pub is_name : List ℕ → Bool
is_name text = nat_le (count_by (λ b. b == colon) text) 1
    && list_all is_identifier (slice_split (λ b. b == colon) text)
