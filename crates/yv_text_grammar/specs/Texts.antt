-- The forms of arguments, as tests of their bytes (RFC 7950, section 14, where no other is named).
use Rattle.std.specs.Prelude.{ℕ, ◌+◌, ◌-◌, ◌*◌, Bool, true, false, not, ◌&&◌, ◌||◌, ◌==◌, nat_le, List, [], ◌∷◌, codes, length, take, drop, nat_eq, slice_index, slice_range, if◌then◌else◌}
use Rattle.std.specs.List.{list_all, list_any, slice_split, starts_with}
use Rattle.std.specs.Str.{bytes_eq, trim}
pub use Rattle.yv_text_if_feature.specs.Names.{is_start, is_part, is_identifier, is_name}
use Rattle.yv_text_grammar.specs.Bytes.{slash}
use Rattle.yv_text_if_feature.specs.Bytes.{dash, is_blank, is_digit}
use Rattle.yv_text_grammar.specs.Words.{words}
use Rattle.yv_text_if_feature.specs.Tokens.{is_empty}

-- a descendant path is names with slashes between (section 6.5)
unfoldable pub is_descendant_path : List ℕ → Bool
is_descendant_path text = list_all is_name (slice_split (λ b. b == slash) text)

-- an absolute path is a slash and a descendant path (section 6.5)
abbrev pub is_absolute_path : List ℕ → Bool
is_absolute_path [] = false
is_absolute_path (b ∷ bs) = b == slash && is_descendant_path bs

-- not empty, and no blank at either end
abbrev pub is_trimmed : List ℕ → Bool
is_trimmed text = not (is_empty text)
    && (not (is_blank (slice_index text 0)) && not (is_blank (slice_index text (length text - 1))))

-- words that pass a test, with blanks between alone
abbrev pub are_words : (List ℕ → Bool) → List ℕ → Bool
are_words test text = is_trimmed text && list_all test (words text)

-- no word is there twice: none is among those after it
abbrev pub none_twice : List (List ℕ) → Bool
none_twice [] = true
none_twice (w ∷ ws) = not (list_any (bytes_eq w) ws) && none_twice ws

-- a key is names with blanks between, none twice (section 7.8.2)
abbrev pub is_key : List ℕ → Bool
is_key text = are_words is_name text && none_twice (words text)

-- a unique argument is descendant paths with blanks between (section 7.8.3)
abbrev pub is_unique : List ℕ → Bool
is_unique text = are_words is_descendant_path text

-- an enum's name isn't empty, and has no white space, in Unicode's sense, at either end (section
-- 9.6.4)
abbrev pub is_enum_name : List ℕ → Bool
is_enum_name text = not (is_empty text) && bytes_eq (trim text) text

-- the number that digits write, after one that comes before them
abbrev pub decimal_after : ℕ → List ℕ → ℕ
decimal_after n [] = n
decimal_after n (b ∷ bs) = decimal_after (10 * n + (b - 48)) bs

-- one digit or more, which write a number from low to high; zeros may lead
unfoldable pub is_number : ℕ → ℕ → List ℕ → Bool
is_number low high text =
    not (is_empty text) && (list_all is_digit text
    && (nat_le low (decimal_after 0 text) && nat_le (decimal_after 0 text) high))

-- an enum's value is a number of 32 bits with a sign: digits, perhaps after a `-` (section
-- 9.6.4.2)
unfoldable pub is_enum_value : List ℕ → Bool
is_enum_value text =
    if not (is_empty text) && nat_eq (slice_index text 0) dash
    then is_number 0 2147483648 (drop 1 text) else is_number 0 2147483647 text

-- `unbounded`, or a number from 1 (section 7.7.6)
abbrev pub is_max_elements : List ℕ → Bool
is_max_elements text = bytes_eq text (codes "unbounded") || is_number 1 4294967295 text

-- a number from 1 to 18, without a zero before it (section 9.3.4)
abbrev pub is_fraction_digits : List ℕ → Bool
is_fraction_digits text = is_number 1 18 text && not (starts_with nat_eq text (codes "0"))

-- `dddd-dd-dd`, the second number from 1 to 12, the third from 1 to 31
unfoldable pub is_date : List ℕ → Bool
is_date text =
    nat_eq (length text) 10
    && (list_all is_digit (take 4 text)
    && (nat_eq (slice_index text 4) dash
    && (is_number 1 12 (slice_range text 5 7)
    && (nat_eq (slice_index text 7) dash && is_number 1 31 (slice_range text 8 10)))))

-- one of these words
abbrev pub is_one_of : List (List ℕ) → List ℕ → Bool
is_one_of choices text = list_any (bytes_eq text) choices
