-- The ASCII characters that YANG's syntax names, by their codes.
use Rattle.std.specs.Prelude.{ℕ}

-- the tab
abbrev pub tab : ℕ
tab = 9

-- the line feed
abbrev pub line_feed : ℕ
line_feed = 10

-- the carriage return
abbrev pub carriage_return : ℕ
carriage_return = 13

-- the space
abbrev pub space : ℕ
space = 32

-- the character `"`
abbrev pub double_quote : ℕ
double_quote = 34

-- the character `'`
abbrev pub single_quote : ℕ
single_quote = 39

-- the character `*`
abbrev pub asterisk : ℕ
asterisk = 42

-- the character `+`
abbrev pub plus_sign : ℕ
plus_sign = 43

-- the character `-`
abbrev pub hyphen : ℕ
hyphen = 45

-- the character `.`
abbrev pub full_stop : ℕ
full_stop = 46

-- the character `/`
abbrev pub slash : ℕ
slash = 47

-- the character `:`
abbrev pub colon : ℕ
colon = 58

-- the character `;`
abbrev pub semicolon : ℕ
semicolon = 59

-- the character `\`
abbrev pub backslash : ℕ
backslash = 92

-- the character `_`
abbrev pub underscore : ℕ
underscore = 95

-- n
abbrev pub letter_n : ℕ
letter_n = 110

-- t
abbrev pub letter_t : ℕ
letter_t = 116

-- the character `{`
abbrev pub opening_brace : ℕ
opening_brace = 123

-- the character `}`
abbrev pub closing_brace : ℕ
closing_brace = 125
