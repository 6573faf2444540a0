-- Bytes by name.
use Rattle.std.specs.Prelude.{ℕ}

-- the byte `/`
abbrev pub slash : ℕ
slash = 47

-- the byte `[`
abbrev pub opening_bracket : ℕ
opening_bracket = 91

-- the byte `]`
abbrev pub closing_bracket : ℕ
closing_bracket = 93

-- the byte `(`
abbrev pub opening_parenthesis : ℕ
opening_parenthesis = 40
