-- Which characters a YANG text and a value of type string may have (RFC 7950, sections 14 and 9.4).
use Rattle.std.specs.Prelude.{ℕ, ◌%◌, Bool, ◌==◌, ◌&&◌, ◌||◌, nat_le, nat_lt, List}
use Rattle.std.specs.List.{list_all}

-- no control but tab, LF and CR, and no noncharacter
abbrev pub is_legal : ℕ → Bool
is_legal c =
    (c == 9 || c == 10 || c == 13 || nat_le 32 c)
    && (nat_lt c 64976 || nat_lt 65007 c)
    && nat_lt (c % 65536) 65534

-- all characters are legal
abbrev pub all_legal : List ℕ → Bool
all_legal characters = list_all is_legal characters
