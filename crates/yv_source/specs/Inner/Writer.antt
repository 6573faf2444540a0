-- The states of the writer of a double-quoted text; cited by private clauses only. What such a text
-- says is Quoted's.
use Rattle.std.specs.Prelude.{◌≡◌, ◌≤◌, nat_lt, slice_index, ℕ, ◌-◌, zero, suc, Bool, true, false, not, ◌==◌, ◌&&◌, ◌||◌, cond, IsTrue, List, [], ◌∷◌, ◌++◌, length, ◌⊎◌}
use Rattle.std.specs.List.{list_all}
use Rattle.std.specs.Char.{encode_utf8}
use Rattle.yv_source.specs.Characters.{tab, line_feed, carriage_return, space, double_quote, backslash, letter_n, letter_t}
use Rattle.yv_source.specs.Escapes.{is_escape}
use Rattle.yv_source.specs.Quotes.{is_gap}

-- the bytes so far, those of spaces and tabs that may come before a line break, whether a CR may,
-- whether a backslash comes before, and how many columns of the line are still stripped
pub record WriterState : Type 0 where
  pub out : List ℕ
  pub gap : List ℕ
  pub cr : Bool
  pub escaped : Bool
  pub left : ℕ

-- the bytes of what a backslash and a character say
abbrev pub escape_bytes : ℕ → List ℕ
escape_bytes c =
    cond (c == letter_n) (encode_utf8 line_feed)
    (cond (c == letter_t) (encode_utf8 tab)
    (cond (c == double_quote || c == backslash) (encode_utf8 c)
    (encode_utf8 backslash ++ encode_utf8 c)))

-- a character that stays, or the next one of a backslash pair
abbrev pub put_character : ℕ → WriterState → WriterState
put_character c w = record w {
  out = w.out ++ cond w.escaped (escape_bytes c) (cond (c == backslash) [] (encode_utf8 c));
  escaped = cond w.escaped false (c == backslash);
}

-- spaces and tabs that stay, after a backslash or not
abbrev pub gap_bytes : Bool → List ℕ → List ℕ
gap_bytes escaped [] = []
gap_bytes true (b ∷ gap) = encode_utf8 backslash ++ b ∷ gap
gap_bytes false (b ∷ gap) = b ∷ gap

abbrev pub is_behind : Bool → List ℕ → Bool
is_behind escaped [] = escaped
is_behind escaped (b ∷ gap) = false

-- the spaces and tabs before this place stay
abbrev pub flush : WriterState → WriterState
flush w = record w {
  out = w.out ++ gap_bytes w.escaped w.gap;
  gap = [];
  escaped = is_behind w.escaped w.gap;
}

abbrev pub with_cr : Bool → WriterState → WriterState
with_cr cr w = record w { cr = cr }

abbrev pub without_gap : WriterState → WriterState
without_gap w = record w { gap = [] }

abbrev pub with_gap : ℕ → WriterState → WriterState
with_gap c w = record w { gap = w.gap ++ encode_utf8 c }

abbrev pub with_left : ℕ → WriterState → WriterState
with_left n w = record w { left = n }

-- a character where no CR comes before
abbrev pub keep_plain : ℕ → WriterState → WriterState
keep_plain c w =
    cond (is_gap c) (with_gap c w)
    (cond (c == carriage_return) (with_cr true w)
    (cond (c == line_feed) (put_character line_feed (without_gap w)) (put_character c (flush w))))

-- a CR that isn't a part of a line break
abbrev pub settle : WriterState → WriterState
settle w = put_character carriage_return (flush (with_cr false w))

-- a character that isn't stripped at its line's start
abbrev pub keep : ℕ → WriterState → WriterState
keep c w =
    cond w.cr
    (cond (c == line_feed)
    (put_character line_feed (put_character carriage_return (with_cr false (without_gap w))))
    (keep_plain c (settle w)))
    (keep_plain c w)

abbrev pub keep_spaces : ℕ → WriterState → WriterState
keep_spaces zero w = w
keep_spaces (suc n) w = keep_spaces n (keep space w)

-- a character, in a text whose lines are stripped up to a column
abbrev pub take_in : ℕ → ℕ → WriterState → WriterState
take_in indent c w =
    cond (c == line_feed) (with_left indent (keep line_feed w))
    (cond (w.left == 0) (keep c w)
    (cond (c == space) (with_left (w.left - 1) w)
    (cond (c == tab) (keep_spaces (8 - w.left) (with_left (w.left - 8) w))
    (keep c (with_left 0 w)))))

-- at the end
abbrev pub trail : WriterState → WriterState
trail w = flush (cond w.cr (settle w) w)

-- what was written
abbrev pub all_of : WriterState → List ℕ
all_of w = w.out ++ cond w.escaped (encode_utf8 backslash) []

abbrev pub fresh : WriterState
fresh = record { out = []; gap = []; cr = false; escaped = false; left = 0 }

-- a byte that ends no line and begins no escape
abbrev pub is_in_run : ℕ → Bool
is_in_run b = not (b == line_feed || b == carriage_return || b == backslash)

-- whether a text ends in something else than a space or a tab, or is empty
abbrev pub ends_well : List ℕ → Bool
ends_well [] = true
ends_well (b ∷ []) = not (is_gap b)
ends_well (b ∷ c ∷ rest) = ends_well (c ∷ rest)

-- whether no character waits, and the line's start is stripped
abbrev pub is_at_rest : WriterState → Bool
is_at_rest w = (((w.left == 0) && (length w.gap == 0)) && not w.cr) && not w.escaped

abbrev pub with_run : List ℕ → WriterState → WriterState
with_run run w = record w { out = w.out ++ run }

-- nothing is written, or at rest a run that stays as it is
abbrev pub Runs : WriterState → List ℕ → WriterState → Type 0
Runs w run x =
    ((run ≡ []) × (x ≡ w))
    ⊎ (IsTrue (is_at_rest w) × IsTrue (list_all is_in_run run) × IsTrue (ends_well run)
    × (x ≡ with_run run w))

-- characters in order
abbrev pub take_each : ℕ → List ℕ → WriterState → WriterState
take_each indent [] w = w
take_each indent (c ∷ cs) w = take_each indent cs (take_in indent c w)

abbrev pub is_ascii : ℕ → Bool
is_ascii c = nat_lt c 128

-- a text begins with an escape, which says this character
pub record BeginsEscape (text : List ℕ) (said : ℕ) : Type 0 where
  pub room : 2 ≤ length text
  pub slash : slice_index text 0 ≡ backslash
  pub letter : IsTrue (is_escape (slice_index text 1))
  pub says : encode_utf8 said ≡ escape_bytes (slice_index text 1)

-- characters of ASCII were taken, however much is stripped of a line
pub record TakesEach (w : WriterState) (run : List ℕ) (x : WriterState) : Type 0 where
  pub ascii : IsTrue (list_all is_ascii run)
  pub each : (indent : ℕ) → x ≡ take_each indent run w
