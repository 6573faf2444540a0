-- Bytes by name, and kinds of bytes.
use Rattle.std.specs.Prelude.{ℕ, Bool, ◌&&◌, ◌||◌, ◌==◌, nat_le}

-- the byte `-`
abbrev pub dash : ℕ
dash = 45

-- the byte `.`
abbrev pub dot : ℕ
dot = 46

-- the byte `:`
abbrev pub colon : ℕ
colon = 58

-- the byte `_`
abbrev pub underscore : ℕ
underscore = 95

-- a space, a tab, a CR or an LF
abbrev pub is_blank : ℕ → Bool
is_blank b = b == 32 || b == 9 || b == 13 || b == 10

-- `(` or `)`
abbrev pub is_parenthesis : ℕ → Bool
is_parenthesis b = b == 40 || b == 41

-- `0` to `9`
abbrev pub is_digit : ℕ → Bool
is_digit b = nat_le 48 b && nat_le b 57

-- `A` to `Z` and `a` to `z`
abbrev pub is_letter : ℕ → Bool
is_letter b = (nat_le 65 b && nat_le b 90) || (nat_le 97 b && nat_le b 122)
