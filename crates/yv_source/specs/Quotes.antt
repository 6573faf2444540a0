-- What a double-quoted text says (RFC 7950, section 6.1.3): first the blanks round its line breaks
-- are stripped, then its escapes are read. A text is here the list of its characters.
use Rattle.std.specs.Prelude.{ℕ, ◌+◌, ◌-◌, zero, suc, Bool, true, false, ◌==◌, ◌&&◌, ◌||◌, cond, List, [], ◌∷◌, ◌++◌, encode_utf8_all}
use Rattle.std.specs.Str.{chars}
use Rattle.yv_source.specs.Characters.{tab, line_feed, carriage_return, space, double_quote, backslash, letter_n, letter_t}
use Rattle.yv_source.specs.Pieces.{begins}

-- a space or a tab
abbrev pub is_gap : ℕ → Bool
is_gap c = c == space || c == tab

-- so many spaces
abbrev pub spaces : ℕ → List ℕ
spaces zero = []
spaces (suc n) = space ∷ spaces n

-- a line without the spaces and tabs in its first n columns; a tab counts as 8 spaces, and what n
-- leaves of it stays
abbrev pub unindent : ℕ → List ℕ → List ℕ
unindent n [] = []
unindent n (c ∷ rest) =
    cond (n == 0) (c ∷ rest)
    (cond (c == space) (unindent (n - 1) rest)
    (cond (c == tab) (spaces (8 - n) ++ unindent (n - 8) rest) (c ∷ rest)))

-- a character before the first of these lines
abbrev pub onto_first : ℕ → List (List ℕ) → List (List ℕ)
onto_first c [] = (c ∷ []) ∷ []
onto_first c (line ∷ others) = (c ∷ line) ∷ others

-- the lines of a text, each with its line feed
abbrev pub lines_of : List ℕ → List (List ℕ)
lines_of [] = [] ∷ []
lines_of (c ∷ rest) =
    cond (c == line_feed) ((c ∷ []) ∷ lines_of rest) (onto_first c (lines_of rest))

-- these lines in a row, each unindented
abbrev pub all_unindented : ℕ → List (List ℕ) → List ℕ
all_unindented n [] = []
all_unindented n (line ∷ others) = unindent n line ++ all_unindented n others

-- the same, but for the first
abbrev pub but_the_first : ℕ → List (List ℕ) → List ℕ
but_the_first n [] = []
but_the_first n (line ∷ others) = line ++ all_unindented n others

-- a text without the spaces and tabs in the first n columns of its lines but the first
abbrev pub without_indent : ℕ → List ℕ → List ℕ
without_indent n text = but_the_first n (lines_of text)

-- whether a text begins with spaces and tabs, or none, and a line break, which is LF or CR LF
abbrev pub breaks : List ℕ → Bool
breaks [] = false
breaks (c ∷ rest) =
    c == line_feed || (c == carriage_return && begins line_feed rest) || (is_gap c && breaks rest)

-- a text without the spaces and tabs before its line breaks
abbrev pub without_trailing : List ℕ → List ℕ
without_trailing [] = []
without_trailing (c ∷ rest) =
    cond (is_gap c && breaks rest) (without_trailing rest) (c ∷ without_trailing rest)

-- what a backslash and a character say: a line feed, a tab, a quote or a backslash, or else both as
-- they are
abbrev pub escape : ℕ → List ℕ
escape c =
    cond (c == letter_n) (line_feed ∷ [])
    (cond (c == letter_t) (tab ∷ [])
    (cond (c == double_quote || c == backslash) (c ∷ []) (backslash ∷ c ∷ [])))

-- a text with its escapes read, after a backslash or not
abbrev pub unescape : Bool → List ℕ → List ℕ
unescape false [] = []
unescape true [] = backslash ∷ []
unescape false (c ∷ rest) = cond (c == backslash) (unescape true rest) (c ∷ unescape false rest)
unescape true (c ∷ rest) = escape c ++ unescape false rest

-- the characters of a text whose first quote comes after this many columns, stripped up to and
-- including the quote's
abbrev pub strip : ℕ → List ℕ → List ℕ
strip column text = without_trailing (without_indent (column + 1) (chars text))

-- the bytes of what a double-quoted text says whose first quote is there
abbrev pub quoted_value : ℕ → List ℕ → List ℕ
quoted_value column text = encode_utf8_all (unescape false (strip column text))
