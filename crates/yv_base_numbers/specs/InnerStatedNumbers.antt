-- Only private clauses cite this: numbers as the program holds them.
use Rattle.std.specs.Prelude.{ℤ, pos, negsuc, int_le, Bool, ◌&&◌, Option, Some, None, if◌then◌else◌}

-- it has at most 64 bits with its sign
abbrev pub fits : ℤ → Bool
fits n = int_le (negsuc 9223372036854775807) n && int_le n (pos 9223372036854775807)

abbrev pub number_in_range : ℤ → Option ℤ
number_in_range n = if fits n then Some n else None
