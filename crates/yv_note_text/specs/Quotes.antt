-- How names of strangers are shown.
use Rattle.std.specs.Prelude.{◌≡◌, ℕ, nat_lt, nat_le, List, [], ◌∷◌, ◌++◌, length, take, codes, if◌then◌else◌}
use Rattle.yv_note_text.specs.Excerpt.{ascii_text}

-- what is shown of a name: its first 72 bytes
abbrev pub front : List ℕ → List ℕ
front name = if nat_le (length name) 72 then name else take 72 name

-- two dots after a name that is cut
abbrev pub dots : List ℕ → List ℕ
dots name = if nat_lt 72 (length name) then codes ".." else []

-- a name in quotes, with two dots after what is shown of a longer one
abbrev pub in_quotes : List ℕ → List ℕ
in_quotes name = 34 ∷ ascii_text (front name) ++ (dots name ++ 34 ∷ [])

-- the name in quotes is in the text
abbrev pub Quotes : List ℕ → List ℕ → Type 0
Quotes name text =
    (before : List ℕ) × (after : List ℕ) × (text ≡ before ++ (in_quotes name ++ after))

-- a text goes on after another one
abbrev pub Extends : List ℕ → List ℕ → Type 0
Extends old new = (more : List ℕ) × (new ≡ old ++ more)
