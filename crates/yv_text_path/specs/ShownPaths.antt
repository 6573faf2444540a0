-- A path as a diagram shows it.
use Rattle.std.specs.Prelude.{ℕ, Bool, false, ◌&&◌, ◌||◌, ◌==◌, List, [], ◌∷◌, if◌then◌else◌, encode_utf8_all}
use Rattle.std.specs.Str.{chars}

-- a space, a tab, a CR or an LF
abbrev pub is_blank : ℕ → Bool
is_blank c = c == 32 || c == 9 || c == 13 || c == 10

-- the first of these characters is a blank
abbrev pub begins_blank : List ℕ → Bool
begins_blank [] = false
begins_blank (c ∷ cs) = is_blank c

-- a space for a blank; other characters as they are
abbrev pub space_for_blank : ℕ → ℕ
space_for_blank c = if is_blank c then 32 else c

-- these characters with each run of blanks as one space: a blank before another one is left out
abbrev pub single_spaced : List ℕ → List ℕ
single_spaced [] = []
single_spaced (c ∷ cs) =
    if is_blank c && begins_blank cs then single_spaced cs else space_for_blank c ∷ single_spaced cs

-- a text with each run of blanks as one space
abbrev pub with_single_spaces : List ℕ → List ℕ
with_single_spaces text = encode_utf8_all (single_spaced (chars text))
