-- Where a place of a text is. It is shown by the bytes before it: its offset is their number.
use Rattle.std.specs.Prelude.{ℕ, ◌+◌, ◌==◌, ◌&&◌, nat_le, nat_lt, cond, count_by, List, [], ◌∷◌, drop}
use Rattle.yv_source.specs.Characters.{tab, line_feed}

-- the line, from 1: each line feed in front begins another
abbrev pub line_of : List ℕ → ℕ
line_of front = 1 + count_by (λ b. b == line_feed) front

-- the columns after one more byte: a line feed begins a line, a tab counts 8 columns (RFC 7950,
-- section 6.1.3), and a byte that goes on with a character (RFC 3629, section 3) none
abbrev pub column_past : ℕ → ℕ → ℕ
column_past n b = cond (b == line_feed) 0
    (cond (b == tab) (n + 8) (cond (nat_le 0x80 b && nat_lt b 0xC0) n (n + 1)))

-- the columns after these bytes, n being those before them
abbrev pub columns : ℕ → List ℕ → ℕ
columns n [] = n
columns n (b ∷ rest) = columns (column_past n b) rest

-- how many bytes at the front of a text are a byte order mark, U+FEFF, which is skipped
abbrev pub mark_len : List ℕ → ℕ
mark_len [] = 0
mark_len (a ∷ []) = 0
mark_len (a ∷ b ∷ []) = 0
mark_len (a ∷ b ∷ c ∷ rest) = cond (a == 0xEF && (b == 0xBB && c == 0xBF)) 3 0

-- how many columns come before a place on its line; the mark counts none
abbrev pub column_of : List ℕ → ℕ
column_of front = columns 0 (drop (mark_len front) front)
