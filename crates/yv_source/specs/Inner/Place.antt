-- Places as the reader counts them; cited by private clauses only.
use Rattle.std.specs.Prelude.{◌≡◌, ℕ, ◌≤◌, List, length, take}
use Rattle.yv_source.specs.Place.{line_of, column_of}
use Rattle.yv_source.specs.declared.place.Lines.{Lines}

-- an offset, its line, from 1, and how many columns are before it on its line
pub record Place : Type 0 where
  pub at : ℕ
  pub line : ℕ
  pub column : ℕ

-- the place after this text
abbrev pub place_of : List ℕ → Place
place_of front = record { at = length front; line = line_of front; column = column_of front }

-- the place at an offset of a text
abbrev pub place_at : List ℕ → ℕ → Place
place_at text at =
    record { at = at; line = line_of (take at text); column = column_of (take at text) }

-- lines were counted in this text, or in a front of it
pub record AreCounted (lines : Lines) (front : List ℕ) : Type 0 where
  pub within : lines.at ≤ length front
  pub line : lines.line ≡ line_of (take lines.at front)
