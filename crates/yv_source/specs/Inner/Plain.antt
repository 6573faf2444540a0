-- Characters that stripping and escapes leave as they are, and those that are legal at first sight;
-- cited by private clauses only.
use Rattle.std.specs.Prelude.{ℕ, Bool, not, ◌==◌, ◌&&◌, ◌||◌, nat_le}
use Rattle.yv_source.specs.Characters.{tab, line_feed, carriage_return, space, backslash}

abbrev pub is_no_feed : ℕ → Bool
is_no_feed c = not (c == line_feed)

abbrev pub is_plain : ℕ → Bool
is_plain c = not (c == line_feed) && not (c == backslash)

-- a character of ASCII that isn't a control, or a tab, LF or CR
abbrev pub is_common : ℕ → Bool
is_common c = (nat_le space c && nat_le c 126) || c == tab || c == line_feed || c == carriage_return
