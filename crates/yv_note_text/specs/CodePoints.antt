-- How the number of a character in Unicode is written.
use Rattle.std.specs.Prelude.{ℕ, zero, suc, ◌+◌, ◌/◌, ◌%◌, nat_lt, List, [], ◌∷◌, ◌++◌, codes, if◌then◌else◌}

-- the digit of this number, which is below 16: one of 0 to 9, or of A to F
abbrev pub hex_digit : ℕ → ℕ
hex_digit n = if nat_lt n 10 then 48 + n else 55 + n

-- the last digits of a number to base 16, so many of them
abbrev pub last_digits : ℕ → ℕ → List ℕ
last_digits zero number = []
last_digits (suc count) number = last_digits count (number / 16) ++ hex_digit (number % 16) ∷ []

-- how many digits a number below 16777216 has to base 16; four, if it has fewer
abbrev pub digit_count : ℕ → ℕ
digit_count number = if nat_lt number 65536 then 4 else (if nat_lt number 1048576 then 5 else 6)

-- `U+`, and the number to base 16 in at least four digits
abbrev pub code_point : ℕ → List ℕ
code_point number = codes "U+" ++ last_digits (digit_count number) number
