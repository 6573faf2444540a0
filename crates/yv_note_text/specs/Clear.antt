-- Texts that don't control a terminal.
use Rattle.std.specs.Prelude.{ℕ, ◌==◌, ◌&&◌, ◌||◌, List, Bool, nat_le, if◌then◌else◌}
use Rattle.std.specs.List.{list_all}

-- a blank, or a visible ASCII character
abbrev pub is_visible : ℕ → Bool
is_visible b = nat_le 32 b && nat_le b 126

-- any other byte as a dot
abbrev pub visible_byte : ℕ → ℕ
visible_byte b = if is_visible b then b else 46

-- a line feed, a blank, or a visible ASCII character
abbrev pub is_clear_byte : ℕ → Bool
is_clear_byte b = b == 10 || is_visible b

-- nothing but line feeds, blanks and visible ASCII characters
abbrev pub is_clear : List ℕ → Bool
is_clear text = list_all is_clear_byte text
