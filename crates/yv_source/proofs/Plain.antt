-- A text without line feeds and backslashes says itself.
use Rattle.std.proofs.Common.{◌≡◌, ℕ, ◌+◌, Bool, true, false, cond, not, ◌==◌, ◌&&◌, ◌||◌, List, [], ◌∷◌, refl, sym, ◌∙◌, ap}
use Rattle.std.specs.Prelude.{IsUtf8, encode_utf8_all}
use Rattle.std.specs.Str.{chars}
use Rattle.std.specs.List.{list_all}
use Rattle.std.proofs.lemmas.Str.{encodes-chars}
use Rattle.yv_source.specs.Pieces.{begins}
use Rattle.yv_source.specs.Quotes.{but_the_first, is_gap, onto_first, lines_of, without_indent, breaks, without_trailing, unescape, strip, quoted_value}
use Rattle.yv_source.specs.Inner.Plain.{is_plain, is_no_feed}
use Rattle.yv_source.proofs.Accepts.{append_nil}

-- what a character that is plain is not, and that those behind it are plain
record PlainFirst (c : ℕ) (rest : List ℕ) : Type 0 where
  pub no_feed : (c == 10) ≡ false
  pub no_slash : (c == 92) ≡ false
  pub others : list_all is_plain rest ≡ true

by_both : (a b r : Bool) → ((not a && not b) && r) ≡ true → (a ≡ false) × (b ≡ false) × (r ≡ true)
by_both false false true h = (refl, refl, refl)
by_both false false false h = cc
by_both false true r h = cc
by_both true b r h = cc

first_is : (c : ℕ) (rest : List ℕ) → list_all is_plain (c ∷ rest) ≡ true → PlainFirst c rest
first_is c rest h =
    let p = by_both (c == 10) (c == 92) (list_all is_plain rest) h in
    record { no_feed = p.0; no_slash = p.1; others = p.2 }

one_line : (cs : List ℕ) → list_all is_plain cs ≡ true → lines_of cs ≡ cs ∷ []
one_line [] h = refl
one_line (c ∷ rest) h =
    let f = first_is c rest h in
    rw f.no_feed (ap (onto_first c) (one_line rest f.others))

no_feed_first : (cs : List ℕ) → list_all is_plain cs ≡ true → begins 10 cs ≡ false
no_feed_first [] h = refl
no_feed_first (c ∷ rest) h = (first_is c rest h).no_feed

neither : (a b d e f : Bool) → a ≡ false → d ≡ false → f ≡ false → (a || (b && d) || (e && f)) ≡ false
neither a b d e f h i j = rw (h, i, j) (both b e)
  where
    both : (b e : Bool) → (false || (b && false) || (e && false)) ≡ false
    both true true = refl
    both true false = refl
    both false true = refl
    both false false = refl

no_break : (cs : List ℕ) → list_all is_plain cs ≡ true → breaks cs ≡ false
no_break [] h = refl
no_break (c ∷ rest) h =
    let f = first_is c rest h in
    neither (c == 10) (c == 13) (begins 10 rest) (is_gap c) (breaks rest) f.no_feed (no_feed_first rest f.others) (no_break rest f.others)

kept_by : (g b : Bool) (c : ℕ) (xs ys : List ℕ) → b ≡ false → cond (g && b) xs (c ∷ ys) ≡ c ∷ ys
kept_by true b c xs ys h = rw h refl
kept_by false b c xs ys h = refl

none_trail : (cs : List ℕ) → list_all is_plain cs ≡ true → without_trailing cs ≡ cs
none_trail [] h = refl
none_trail (c ∷ rest) h =
    let f = first_is c rest h in
    kept_by (is_gap c) (breaks rest) c (without_trailing rest) (without_trailing rest) (no_break rest f.others) ∙ ap (λ l. c ∷ l) (none_trail rest f.others)

none_escaped : (cs : List ℕ) → list_all is_plain cs ≡ true → unescape false cs ≡ cs
none_escaped [] h = refl
none_escaped (c ∷ rest) h =
    let f = first_is c rest h in
    rw f.no_slash (ap (λ l. c ∷ l) (none_escaped rest f.others))

not_yet : (a r : Bool) → (not a && r) ≡ true → (a ≡ false) × (r ≡ true)
not_yet false true h = (refl, refl)
not_yet false false h = cc
not_yet true r h = cc

only_line : (cs : List ℕ) → list_all is_no_feed cs ≡ true → lines_of cs ≡ cs ∷ []
only_line [] h = refl
only_line (c ∷ rest) h =
    let f = not_yet (c == 10) (list_all is_no_feed rest) h in
    rw f.0 (ap (onto_first c) (only_line rest f.1))

-- of a text without line feeds as much is stripped wherever it is
pub one_line_strips : (m n : ℕ) (text : List ℕ) → list_all is_no_feed (chars text) ≡ true → strip m text ≡ strip n text
one_line_strips m n text h =
    let e = only_line (chars text) h in
    ap (λ l. without_trailing (but_the_first (m + 1) l)) e ∙ sym (ap (λ l. without_trailing (but_the_first (n + 1) l)) e)

-- stripping and escapes leave such a text as it is
pub plain_says : (column : ℕ) (text : List ℕ) → IsUtf8 text → list_all is_plain (chars text) ≡ true → text ≡ quoted_value column text
plain_says column text utf8 h =
    let cs = chars text in
    let unindented : without_indent (column + 1) cs ≡ cs = rw (one_line cs h) (append_nil cs) in
    let whole : strip column text ≡ cs = ap without_trailing unindented ∙ none_trail cs h in
    sym (ap (λ l. encode_utf8_all (unescape false l)) whole ∙ ap encode_utf8_all (none_escaped cs h) ∙ encodes-chars text utf8)
