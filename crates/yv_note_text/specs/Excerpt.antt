-- How a place in a file is shown.
use Rattle.std.specs.Prelude.{◌≡◌, ◌≢◌, ◌≤◌, ◌<◌, ◌+◌, ◌-◌, ◌&&◌, ◌||◌, ◌==◌, ◌++◌, ℕ, Bool, nat_le, nat_lt, List, [], ◌∷◌, length, map, replicate, slice_index, slice_range, if◌then◌else◌}
use Rattle.std.specs.List.{filter}

-- from start to end, without the end, is the line that holds the offset, but for what of it is
-- more than 72 bytes away
pub record IsShownAt (bytes : List ℕ) (offset start end : ℕ) : Type 0 where
  pub low : start ≤ offset
  pub high : offset ≤ end
  pub within : end ≤ length bytes
  pub one : (k : ℕ) → start ≤ k → k < end → slice_index bytes k ≢ 10
  pub near_start : offset ≤ start + 72
  pub near_end : end ≤ offset + 72
  pub first : 0 < start → offset < start + 72 → slice_index bytes (start - 1) ≡ 10
  pub last : end < length bytes → end < offset + 72 → slice_index bytes end ≡ 10

-- the byte begins a character
abbrev pub begins_character : ℕ → Bool
begins_character b = nat_lt b 128 || nat_le 192 b

-- a printable ASCII character as it is, a tab or a carriage return as a blank, any other as a dot
abbrev pub shown_byte : ℕ → ℕ
shown_byte b = if nat_le 32 b && nat_le b 126 then b else (if b == 9 || b == 13 then 32 else 46)

-- one character of ASCII for each character
abbrev pub ascii_text : List ℕ → List ℕ
ascii_text bytes = map shown_byte (filter begins_character bytes)

-- the line, and below it a caret after as many blanks as characters come before the place
abbrev pub excerpt_text : List ℕ → List ℕ → List ℕ
excerpt_text line before =
    ascii_text line ++ (10 ∷ replicate (length (ascii_text before)) 32) ++ (94 ∷ 10 ∷ [])

-- the text shows the line that holds the offset, and where in it the offset is
abbrev pub ShowsPlace : List ℕ → ℕ → List ℕ → Type 0
ShowsPlace bytes offset text =
    (start : ℕ) × (end : ℕ) × IsShownAt bytes offset start end
    × (text ≡ excerpt_text (slice_range bytes start end) (slice_range bytes start offset))
