-- The column and the line of an offset.
use Rattle.std.specs.Prelude.{ℕ, ◌≡◌, ◌<◌, ◌≤◌, ◌+◌, ◌-◌, ◌==◌, List, length, get_or, Bool, count_by, not, take}
use Rattle.std.specs.List.{suffix_len}

-- a line feed
abbrev pub is_line_feed : ℕ → Bool
is_line_feed b = b == 10

-- any byte but a line feed
abbrev pub is_in_line : ℕ → Bool
is_in_line b = not (b == 10)

-- one more than the number of bytes from the last line feed before an offset, or from the beginning
-- where there is none, to the offset
abbrev pub column : (bytes : List ℕ) → (offset : ℕ) → ℕ
column bytes offset = 1 + suffix_len is_in_line (take offset bytes)

-- one more than the number of line feeds before an offset
abbrev pub line_at : (bytes : List ℕ) → (offset : ℕ) → ℕ
line_at bytes offset = 1 + count_by is_line_feed (take offset bytes)

-- a line of a file begins at this place: at the beginning of the file or right behind a line feed,
-- where so many line feeds less one stand before it
pub record LineBegins (bytes : List ℕ) (line place : ℕ) : Type 0 where
  pub within : place ≤ length bytes
  pub behind : 0 < place → get_or bytes (place - 1) 0 ≡ 10
  pub number : line_at bytes place ≡ line
