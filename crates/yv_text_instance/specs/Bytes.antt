-- Bytes by name.
use Rattle.std.specs.Prelude.{ℕ}

-- the byte `"`
abbrev pub double_quote : ℕ
double_quote = 34

-- the byte `'`
abbrev pub single_quote : ℕ
single_quote = 39

-- the digit `0`
abbrev pub zero_digit : ℕ
zero_digit = 48
