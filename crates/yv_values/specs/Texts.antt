-- The values of texts: strings, names, sets of bits, octets and identities.
use Rattle.std.specs.Prelude.{◌≡◌, ℕ, ◌+◌, ◌-◌, nat_lt, List, [], ◌∷◌, take, drop, length, slice_index, Bool, true, not, pos, ◌&&◌, ◌==◌, Option, Some, None, Result, Ok, Err, if◌then◌else◌}
use Rattle.std.specs.List.{list_all, filter, slice_split}
use Rattle.std.specs.Str.{chars}
use Rattle.base64.specs.declared.decode.DecodeError.{DecodeError}
use Rattle.yv_text_statement.specs.Legal.{all_legal}
use Rattle.yv_pattern.specs.Meaning.{verdict}
use Rattle.yv_base_numbers.specs.Intervals.{Interval, are_among}
pub use Rattle.yv_values.specs.Identities.{is_identity, identity_in}
pub use Rattle.yv_values.specs.NameOrder.{is_named}
use Rattle.yv_values.specs.Types.{Test, Id}
use Rattle.yv_values.specs.Values.{Val, text, name, bits, binary}

-- the length lies in one of the intervals, ends included
abbrev pub is_length : List Interval → ℕ → Bool
is_length lengths n = are_among lengths (pos n)

-- the pattern matches the text, or doesn't where it is inverted
abbrev pub passes : List ℕ → Test → Bool
passes s t = if t.inverted then not (verdict t.source s) else verdict t.source s

-- a string of legal characters, of so many, that passes every pattern (RFC 7950, section 9.4)
abbrev pub text_in : List Interval → List Test → List ℕ → Option Val
text_in lengths tests s =
    if is_length lengths (length (chars s)) && (all_legal (chars s) && list_all (passes s) tests)
    then Some (text s) else None

-- a name of an enumeration (section 9.6)
abbrev pub name_in : List (List ℕ) → List ℕ → Option Val
name_in names s = if is_named names s then Some (name s) else None

-- so many octets, in base64 (section 9.8)
abbrev pub binary_in : List Interval → Result (List ℕ) DecodeError → Option Val
binary_in lengths (Ok octets) =
    if is_length lengths (length octets) then Some (binary octets) else None
binary_in lengths (Err e) = None

-- what a text is cut into at each blank
abbrev pub pieces : List ℕ → List (List ℕ)
pieces s = slice_split (λ c. c == 32) s

-- a text has bytes
abbrev pub is_word : List ℕ → Bool
is_word w = nat_lt 0 (length w)

-- the words of a text, with one blank or more between
abbrev pub words : List ℕ → List (List ℕ)
words s = filter is_word (pieces s)

-- no blank is at an end of the text
abbrev pub is_trimmed : List ℕ → Bool
is_trimmed s = not (slice_index s 0 == 32) && not (slice_index s (length s - 1) == 32)

-- none is named twice
abbrev pub are_distinct : List (List ℕ) → Bool
are_distinct [] = true
are_distinct (w ∷ ws) = not (is_named ws w) && are_distinct ws

-- the bits' names among these words, in the order of the type's list, which is that of their bytes
abbrev pub choose : List (List ℕ) → List (List ℕ) → List (List ℕ)
choose names ws = filter (is_named ws) names

-- a set of bits: names of the type with blanks between, none twice, in any order (section 9.7)
abbrev pub bits_in : List (List ℕ) → List ℕ → Option Val
bits_in names s =
    if is_trimmed s && (list_all (is_named names) (words s) && are_distinct (words s))
    then Some (bits (choose names (words s))) else None

-- the texts have the same words, in whatever order
abbrev pub HaveSameWords : List ℕ → List ℕ → Type 0
HaveSameWords s t = (w : List ℕ) → is_named (words s) w ≡ is_named (words t) w

-- a plain name is of the given module; else the module's name comes before a colon
abbrev pub identity_at : List Id → List ℕ → List ℕ → Option ℕ → Option Val
identity_at ids m s None = identity_in ids m s
identity_at ids m s (Some i) = identity_in ids (take i s) (drop (i + 1) s)
