-- A double-quoted text is written in runs.
use Rattle.std.proofs.Common.{◌≡◌, ℕ, zero, suc, ◌-◌, add-one, get_or, Option, Some, None, ◌+◌, ◌<◌, ◌≤◌, Bool, true, false, cond, not, ◌==◌, ◌&&◌, ◌||◌, nat_lt, List, [], ◌∷◌, ◌++◌, length, take, drop, refl, sym, ◌∙◌, ap, subst, inl, inr, arith, append_assoc, length-append}
use Rattle.std.specs.Prelude.{IsUtf8, IsCharBoundary, encode_utf8_all}
use Rattle.std.specs.List.{list_all}
use Rattle.std.specs.Str.{chars}
use Rattle.std.specs.Char.{encode_utf8, len_utf8}
use Rattle.std.proofs.lemmas.Bool.{cases_Bool, eqb-true}
use Rattle.std.proofs.lemmas.Bool.Decides.{nat_tests}
use Rattle.std.proofs.lemmas.List.{take-append-drop, take-take, take_all, take_more, drop_at, drop-drop, length-take-le}
use Rattle.std.proofs.Math.Seq.{take-add}
use Rattle.std.proofs.lemmas.List.Folds.{list_all-append, list_all_more}
use Rattle.std.specs.Option.{unwrap_or, is_some}
use Rattle.memchr.specs.Find.{IsFirstByte, is_byte2, is_byte3, is_byte}
use Rattle.yv_source.specs.Inner.Plain.{is_plain, is_no_feed}
use Rattle.std.proofs.lemmas.Str.{encodes-chars, encode_ascii, length-encode, len_utf8_bounds, chars-nil, chars-append, chars_past_char, IsUtf8-take, IsUtf8-drop, IsUtf8-past_char, IsCharBoundary-at_seam}
use Rattle.yv_source.specs.Pieces.{begins}
use Rattle.yv_source.specs.Quotes.{is_gap, breaks, without_trailing, unescape, quoted_value, lines_of}
use Rattle.yv_source.specs.Escapes.{is_escape}
use Rattle.yv_source.specs.Inner.Writer.{TakesEach, BeginsEscape, escape_bytes, is_ascii, take_each, WriterState, take_in, trail, all_of, fresh, is_in_run, ends_well, is_at_rest, with_run, Runs}
use Rattle.yv_source.proofs.Accepts.{append_nil}
use Rattle.yv_source.proofs.Keyword.{false_true, and_first, and_second}
use Rattle.yv_source.proofs.WriterOutput.{AllGap, is_gap_means, gap_ascii, read, crs, value, other_breaks, other_stays, lead, takes, ends, lead_lines, first_stays}

-- what is true of each byte is true of each character
pub chars_pass : (p : ℕ → Bool) → ((c : ℕ) → 128 ≤ c → p c ≡ true) → (cs : List ℕ) → list_all p (encode_utf8_all cs) ≡ true → list_all p cs ≡ true
chars_pass p high [] h = refl
chars_pass p high (c ∷ cs) h =
    let both : (list_all p (encode_utf8 c) && list_all p (encode_utf8_all cs)) ≡ true = sym (list_all-append p (encode_utf8 c) (encode_utf8_all cs)) ∙ h in
    let here = and_first (list_all p (encode_utf8 c)) (list_all p (encode_utf8_all cs)) both in
    let others = chars_pass p high cs (and_second (list_all p (encode_utf8 c)) (list_all p (encode_utf8_all cs)) both) in
    let one : p c ≡ true =
    elim (cases_Bool (nat_lt c 128)) [
      | inl e ↦ (let low : c < 128 = grind (arith, nat_tests) in and_first (p c) true (sym (ap (list_all p) (encode_ascii c low)) ∙ here))
      | inr e ↦ (let top : 128 ≤ c = grind (arith, nat_tests) in high c top)
    ]
    in
    ap (λ v. v && list_all p cs) one ∙ others

-- the last byte and the last character
ends_behind : (xs : List ℕ) (y : ℕ) (ys : List ℕ) → ends_well (xs ++ y ∷ ys) ≡ ends_well (y ∷ ys)
ends_behind [] y ys = refl
ends_behind (x ∷ []) y ys = refl
ends_behind (x ∷ z ∷ xs) y ys = ends_behind (z ∷ xs) y ys

ends_last : (xs ys : List ℕ) → 0 < length ys → ends_well (xs ++ ys) ≡ ends_well ys
ends_last xs [] h = absurd (omega (arith, h))
ends_last xs (y ∷ ys) h = ends_behind xs y ys

end_of_one : (c : ℕ) (v : Bool) → is_gap c ≡ v → ends_well (encode_utf8 c ++ []) ≡ true → not (is_gap c) ≡ true
end_of_one c false e h = ap not e
end_of_one c true e h = sym (ap ends_well (append_nil (encode_utf8 c) ∙ gap_ascii c (is_gap_means c e))) ∙ h

chars_end : (cs : List ℕ) → ends_well (encode_utf8_all cs) ≡ true → ends_well cs ≡ true
chars_end [] h = refl
chars_end (c ∷ []) h = end_of_one c (is_gap c) refl h
chars_end (c ∷ d ∷ cs) h =
    let some : 0 < length (encode_utf8_all (d ∷ cs)) = omega (arith, length-append (encode_utf8 d) (encode_utf8_all cs), length-encode d, (len_utf8_bounds d).0) in
    chars_end (d ∷ cs) (sym (ends_last (encode_utf8 c) (encode_utf8_all (d ∷ cs)) some) ∙ h)

-- what a character of a run is not
record InRun (c : ℕ) (rest : List ℕ) : Type 0 where
  pub no_feed : (c == 10) ≡ false
  pub no_return : (c == 13) ≡ false
  pub no_slash : (c == 92) ≡ false
  pub others : list_all is_in_run rest ≡ true

none_of : (a b d r : Bool) → (not (a || b || d) && r) ≡ true → (a ≡ false) × (b ≡ false) × (d ≡ false) × (r ≡ true)
none_of false false false true h = (refl, refl, refl, refl)
none_of false false false false h = cc
none_of false false true r h = cc
none_of false true false r h = cc
none_of false true true r h = cc
none_of true false false r h = cc
none_of true false true r h = cc
none_of true true false r h = cc
none_of true true true r h = cc

in_run : (c : ℕ) (rest : List ℕ) → list_all is_in_run (c ∷ rest) ≡ true → InRun c rest
in_run c rest h =
    let p = none_of (c == 10) (c == 13) (c == 92) (list_all is_in_run rest) h in
    record { no_feed = p.0; no_return = p.1; no_slash = p.2; others = p.3 }

high_in_run : (c : ℕ) → 128 ≤ c → is_in_run c ≡ true
high_in_run c h = grind (arith, nat_tests)

lead_run : (n : ℕ) (cs t : List ℕ) → list_all is_in_run cs ≡ true → lead n 0 (cs ++ t) ≡ cs ++ lead n 0 t
lead_run n [] t h = refl
lead_run n (c ∷ cs) t h =
    let f = in_run c cs h in
    ap (λ v. cond v (c ∷ lead n n (cs ++ t)) (c ∷ lead n 0 (cs ++ t))) f.no_feed ∙ ap (λ l. c ∷ l) (lead_run n cs t f.others)

and_false : (v : Bool) → (v && false) ≡ false
and_false true = refl
and_false false = refl

not_gap : (v : Bool) → not v ≡ true → v ≡ false
not_gap true h = sym h
not_gap false h = refl

breaks_run : (c : ℕ) (cs t : List ℕ) → list_all is_in_run (c ∷ cs) ≡ true → ends_well (c ∷ cs) ≡ true → breaks ((c ∷ cs) ++ t) ≡ false
breaks_run c [] t h w = let f = in_run c [] h in other_breaks c t (not_gap (is_gap c) w) f.no_return f.no_feed
breaks_run c (d ∷ cs) t h w =
    let f = in_run c (d ∷ cs) h in
    let b = breaks_run d cs t f.others w in
    ap (λ (x : Bool × (Bool × Bool)). (x.0 || (x.1.0 && begins 10 ((d ∷ cs) ++ t))) || (is_gap c && x.1.1)) (λ i. (f.no_feed i, (f.no_return i, b i)))
    ∙ and_false (is_gap c)

trail_run : (cs t : List ℕ) → list_all is_in_run cs ≡ true → ends_well cs ≡ true → without_trailing (cs ++ t) ≡ cs ++ without_trailing t
trail_run [] t h w = refl
trail_run (c ∷ []) t h w = other_stays c t (not_gap (is_gap c) w)
trail_run (c ∷ d ∷ cs) t h w =
    let f = in_run c (d ∷ cs) h in
    let u : List ℕ = (d ∷ cs) ++ t in
    ap (λ v. cond (is_gap c && v) (without_trailing u) (c ∷ without_trailing u)) (breaks_run d cs t f.others w)
    ∙ ap (λ v. cond v (without_trailing u) (c ∷ without_trailing u)) (and_false (is_gap c))
    ∙ ap (λ l. c ∷ l) (trail_run (d ∷ cs) t f.others w)

read_run : (cs t : List ℕ) → list_all is_in_run cs ≡ true → read false (cs ++ t) ≡ encode_utf8_all cs ++ read false t
read_run [] t h = refl
read_run (c ∷ cs) t h =
    let f = in_run c cs h in
    ap (λ v. encode_utf8_all (cond v (unescape true (cs ++ t)) (c ∷ unescape false (cs ++ t)))) f.no_slash
    ∙ ap (λ l. encode_utf8 c ++ l) (read_run cs t f.others)
    ∙ sym (append_assoc (encode_utf8 c) (encode_utf8_all cs) (read false t))

-- a writer at rest
abbrev rested : List ℕ → WriterState
rested out = record { out = out; gap = []; cr = false; escaped = false; left = 0 }

no_gap : (gap : List ℕ) → (length gap == 0) ≡ true → gap ≡ []
no_gap [] h = refl
no_gap (b ∷ gap) h = absurd (let n = eqb-true (length (b ∷ gap)) 0 h in omega (arith, n))

rest_is : (left : ℕ) (gap : List ℕ) (cr escaped : Bool) → ((((left == 0) && (length gap == 0)) && not cr) && not escaped) ≡ true → (left ≡ 0) × (gap ≡ []) × (cr ≡ false) × (escaped ≡ false)
rest_is left gap cr escaped h =
    let three = and_first (((left == 0) && (length gap == 0)) && not cr) (not escaped) h in
    let two = and_first ((left == 0) && (length gap == 0)) (not cr) three in (
      eqb-true left 0 (and_first (left == 0) (length gap == 0) two),
      no_gap gap (and_second (left == 0) (length gap == 0) two),
      not_gap cr (and_second ((left == 0) && (length gap == 0)) (not cr) three),
      not_gap escaped (and_second (((left == 0) && (length gap == 0)) && not cr) (not escaped) h),
    )

-- an escape at rest: the backslash waits, and then what both say is written
three_nils : (out : List ℕ) → ((out ++ []) ++ []) ++ [] ≡ out
three_nils out = append_nil ((out ++ []) ++ []) ∙ append_nil (out ++ []) ∙ append_nil out

one_of_four : {P : Type 0} (a b d f : Bool) → (a || b || d || f) ≡ true → (a ≡ true → P) → (b ≡ true → P) → (d ≡ true → P) → (f ≡ true → P) → P
one_of_four true b d f h k l m n = k refl
one_of_four false true d f h k l m n = l refl
one_of_four false false true f h k l m n = m refl
one_of_four false false false true h k l m n = n refl
one_of_four false false false false h k l m n = absurd (false_true h)

abbrev PairSays : ℕ → List ℕ → ℕ → Type 0
PairSays indent out e = take_in indent e (take_in indent 92 (rested out)) ≡ rested (out ++ escape_bytes e)

pair_plain : (indent e : ℕ) (out : List ℕ) → is_escape e ≡ true → PairSays indent out e
pair_plain indent e out h =
    let P : ℕ → Type 0 = λ k. PairSays indent out k in
    let nils = three_nils out in
    one_of_four (e == 110) (e == 116) (e == 34) (e == 92) h
    (λ t. subst P (sym (eqb-true e 110 t)) (ap (λ l. rested (l ++ escape_bytes 110)) nils))
    (λ t. subst P (sym (eqb-true e 116 t)) (ap (λ l. rested (l ++ escape_bytes 116)) nils))
    (λ t. subst P (sym (eqb-true e 34 t)) (ap (λ l. rested (l ++ escape_bytes 34)) nils))
    (λ t. subst P (sym (eqb-true e 92 t)) (ap (λ l. rested (l ++ escape_bytes 92)) nils))

pair_at_rest : (indent e : ℕ) (w : WriterState) → is_at_rest w ≡ true → is_escape e ≡ true → take_in indent e (take_in indent 92 w) ≡ with_run (escape_bytes e) w
pair_at_rest indent e w rest h =
    let r = rest_is w.left w.gap w.cr w.escaped rest in
    let is : w ≡ rested w.out = λ i. record { out = w.out; gap = r.1 i; cr = r.2 i; escaped = r.3 i; left = r.0 i } in
    ap (λ x. take_in indent e (take_in indent 92 x)) is ∙ pair_plain indent e w.out h ∙ ap (with_run (escape_bytes e)) (sym is)

each-append : (indent : ℕ) (xs ys : List ℕ) (w : WriterState) → take_each indent (xs ++ ys) w ≡ take_each indent ys (take_each indent xs w)
each-append indent [] ys w = refl
each-append indent (x ∷ xs) ys w = each-append indent xs ys (take_in indent x w)

escape_low : (c : ℕ) → is_escape c ≡ true → nat_lt c 128 ≡ true
escape_low c h = grind (arith, nat_tests)

two_first : (xs : List ℕ) → 2 ≤ length xs → take 2 xs ≡ get_or xs 0 0 ∷ get_or xs 1 0 ∷ []
two_first [] h = absurd (omega (arith, h))
two_first (x ∷ []) h = absurd (omega (arith, h))
two_first (x ∷ y ∷ xs) h = refl

pub takes_none : (w : WriterState) (xs : List ℕ) → TakesEach w (take 0 xs) w
takes_none w xs = record { ascii = refl; each = λ indent. refl }

pub takes_escape : (v w x : WriterState) (xs : List ℕ) (n c : ℕ) → TakesEach v (take n xs) w → is_at_rest w ≡ true → BeginsEscape (drop n xs) c → x ≡ with_run (encode_utf8 c) w → TakesEach v (take (n + 2) xs) x
takes_escape v w x xs n c t rest b e =
    let front : List ℕ = take n xs in
    let letter : ℕ = get_or (drop n xs) 1 0 in
    let pair : List ℕ = 92 ∷ letter ∷ [] in
    let two : take 2 (drop n xs) ≡ pair = two_first (drop n xs) b.room ∙ ap (λ k. k ∷ letter ∷ []) b.slash in
    let all : take (n + 2) xs ≡ front ++ pair = take-add n 2 xs ∙ ap (λ l. front ++ l) two in
    let low : list_all is_ascii (front ++ pair) ≡ true =
    list_all-append is_ascii front pair ∙ ap (λ q. q && list_all is_ascii pair) t.ascii ∙ ap (λ q. q && true) (escape_low letter b.letter)
    in
    let is : (indent : ℕ) → x ≡ take_each indent (front ++ pair) v =
    λ indent. e ∙ ap (λ l. with_run l w) b.says ∙ sym (pair_at_rest indent letter w rest b.letter) ∙ ap (take_each indent pair) (t.each indent) ∙ sym (each-append indent front pair v)
    in
    let P : List ℕ → Type 0 = λ l. TakesEach v l x in
    subst P (sym all) (record { ascii = low; each = is })

-- what is written at rest leaves it at rest
pub rests_on : (w x : WriterState) (run : List ℕ) → is_at_rest w ≡ true → x ≡ with_run run w → is_at_rest x ≡ true
rests_on w x run h e = ap is_at_rest e ∙ h

runs_value : (n : ℕ) (w : WriterState) (cs t : List ℕ) → is_at_rest w ≡ true → list_all is_in_run cs ≡ true → ends_well cs ≡ true → value (with_run (encode_utf8_all cs) w) (lead n w.left t) ≡ value w (lead n w.left (cs ++ t))
runs_value n w cs t rest h e =
    let r = rest_is w.left w.gap w.cr w.escaped rest in
    let Plain : List ℕ → List ℕ → List ℕ → ℕ × (List ℕ × (Bool × Bool)) → Type 0 =
    λ out xs ys x. (out ++ encode_utf8_all cs) ++ read x.1.1.1 (without_trailing (x.1.0 ++ (crs x.1.1.0 ++ lead n x.0 t))) ≡ out ++ read x.1.1.1 (without_trailing (x.1.0 ++ (crs x.1.1.0 ++ lead n x.0 (cs ++ t))))
    in
    let plain : Plain w.out [] [] (0, ([], (false, false))) =
    append_assoc w.out (encode_utf8_all cs) (read false (without_trailing (lead n 0 t)))
    ∙ ap (λ l. w.out ++ l) (sym (ap (λ l. read false (without_trailing l)) (lead_run n cs t h) ∙ ap (read false) (trail_run cs (lead n 0 t) h e) ∙ read_run cs (without_trailing (lead n 0 t)) h))
    in
    subst (Plain w.out [] []) (λ i. (sym r.0 i, (sym r.1 i, (sym r.2 i, sym r.3 i)))) plain

-- ---- searches
all_before : (p : ℕ → Bool) (xs : List ℕ) (k : ℕ) → k ≤ length xs → ((j : ℕ) → j < k → p (get_or xs j 0) ≡ true) → list_all p (take k xs) ≡ true
all_before p xs zero le each = refl
all_before p xs (suc k) le each =
    let P : ℕ → Type 0 = λ n. list_all p (take n xs) ≡ true in
    subst P (add-one k)
    (list_all_more p xs k 0 (omega arith) ∙ ap (λ v. v && p (get_or xs k 0)) (all_before p xs k (omega arith) (λ j l. each j (omega arith))) ∙ each k (omega arith))

not_true : (v : Bool) → (v ≡ true → ⊥) → not v ≡ true
not_true true h = absurd (h refl)
not_true false h = refl

three_low : (b : ℕ) → (b == 10 || b == 13 || b == 92) ≡ true → b < 128
three_low b h = grind (arith, nat_tests)

pub run_found : (xs : List ℕ) (r : Option ℕ) (n : ℕ) → n ≡ unwrap_or r (length xs) → IsFirstByte (is_byte3 10 13 92) xs r → (n ≤ length xs) × (list_all is_in_run (take n xs) ≡ true) × (n < length xs → get_or xs n 0 < 128)
run_found xs None n e h =
    let P : ℕ → Type 0 = λ k. (k ≤ length xs) × (list_all is_in_run (take k xs) ≡ true) × (k < length xs → get_or xs k 0 < 128) in
    subst P (sym e) (omega arith, all_before is_in_run xs (length xs) (omega arith) (λ j l. not_true _ (h j (omega arith) l)), λ l. absurd (omega arith))
run_found xs (Some k) n e h =
    let P : ℕ → Type 0 = λ i. (i ≤ length xs) × (list_all is_in_run (take i xs) ≡ true) × (i < length xs → get_or xs i 0 < 128) in
    let first = h.0 in
    subst P (sym e) (omega (arith, first.high), all_before is_in_run xs k (omega (arith, first.high)) (λ j l. not_true _ (first.before j (omega arith) l)), λ l. three_low (get_or xs k 0) h.1)

pub run_front : (xs : List ℕ) (n m : ℕ) → n ≤ m → list_all is_in_run (take m xs) ≡ true → list_all is_in_run (take n xs) ≡ true
run_front xs n m le h =
    let cut : take n xs ++ drop n (take m xs) ≡ take m xs = ap (λ l. l ++ drop n (take m xs)) (sym (take-take n m xs le)) ∙ take-append-drop n (take m xs) in
    and_first (list_all is_in_run (take n xs)) (list_all is_in_run (drop n (take m xs)))
    (sym (list_all-append is_in_run (take n xs) (drop n (take m xs))) ∙ ap (list_all is_in_run) cut ∙ h)

pub well_at : (xs : List ℕ) (n : ℕ) → 0 < n → n ≤ length xs → is_gap (get_or xs (n - 1) 0) ≡ false → ends_well (take n xs) ≡ true
well_at xs n some le g =
    let P : ℕ → Type 0 = λ k. ends_well (take k xs) ≡ true in
    let is : n - 1 + 1 ≡ n = omega arith in
    subst P is (ap ends_well (take_more xs (n - 1) 0 (omega arith)) ∙ ends_behind (take (n - 1) xs) (get_or xs (n - 1) 0) [] ∙ ap not g)

pub gap_low : (b : ℕ) → is_gap b ≡ true → b < 128
gap_low b h = grind (arith, nat_tests)

-- a text without line feeds and backslashes
plain_high : (c : ℕ) → 128 ≤ c → is_plain c ≡ true
plain_high c h = grind (arith, nat_tests)

plain_byte : (a b : Bool) → ((a || b) ≡ true → ⊥) → (not a && not b) ≡ true
plain_byte true b h = absurd (h (or_first b))
  where
    or_first : (b : Bool) → (true || b) ≡ true
    or_first true = refl
    or_first false = refl
plain_byte false true h = absurd (h refl)
plain_byte false false h = refl

pub plain_text : (text : List ℕ) (r : Option ℕ) (v : Bool) → IsUtf8 text → IsFirstByte (is_byte2 10 92) text r → is_some r ≡ not v → v ≡ true → list_all is_plain (chars text) ≡ true
plain_text text (Some k) v u h n t = absurd (false_true (sym (ap not t) ∙ sym n))
plain_text text None v u h n t =
    let bytes = all_before is_plain text (length text) (omega arith) (λ j l. plain_byte (get_or text j 0 == 10) (get_or text j 0 == 92) (h j (omega arith) l)) in
    chars_pass is_plain plain_high (chars text)
    (ap (list_all is_plain) (encodes-chars text u ∙ sym (take_all (length text) text (omega arith))) ∙ bytes)

-- a text without line feeds
no_feed_high : (c : ℕ) → 128 ≤ c → is_no_feed c ≡ true
no_feed_high c h = grind (arith, nat_tests)

no_feed_byte : (a : Bool) → (a ≡ true → ⊥) → not a ≡ true
no_feed_byte true h = absurd (h refl)
no_feed_byte false h = refl

pub no_feed_text : (text : List ℕ) (r : Option ℕ) (v : Bool) → IsUtf8 text → IsFirstByte (is_byte 10) text r → is_some r ≡ not v → v ≡ true → list_all is_no_feed (chars text) ≡ true
no_feed_text text (Some k) v u h n t = absurd (false_true (sym (ap not t) ∙ sym n))
no_feed_text text None v u h n t =
    let bytes = all_before is_no_feed text (length text) (omega arith) (λ j l. no_feed_byte (get_or text j 0 == 10) (h j (omega arith) l)) in
    chars_pass is_no_feed no_feed_high (chars text)
    (ap (list_all is_no_feed) (encodes-chars text u ∙ sym (take_all (length text) text (omega arith))) ∙ bytes)

-- how far a text was written
pub record WritesTo (indent : ℕ) (text : List ℕ) (at : ℕ) (w : WriterState) : Type 0 where
  pub front : List ℕ
  pub rest : List ℕ
  pub is : text ≡ front ++ rest
  pub at_is : at ≡ length front
  pub rest_utf8 : IsUtf8 rest
  pub gap : AllGap w.gap
  pub says : value w (lead indent w.left (chars rest)) ≡ value fresh (lead indent 0 (chars text))

pub writes_start : (indent : ℕ) (text : List ℕ) → IsUtf8 text → WritesTo indent text 0 fresh
writes_start indent text u = record { front = []; rest = text; is = refl; at_is = refl; rest_utf8 = u; gap = tt; says = refl }

module _ {indent : ℕ} {text : List ℕ} {at : ℕ} {w : WriterState} (so_far : WritesTo indent text at w) where
  pub writes_rest : drop at text ≡ so_far.rest
  writes_rest = ap (λ n. drop n text) so_far.at_is ∙ ap (drop (length so_far.front)) so_far.is ∙ drop_at so_far.front so_far.rest (length so_far.front) refl

  pub writes_boundary : IsCharBoundary text at
  writes_boundary =
      let P : ℕ → Type 0 = λ n. IsCharBoundary text n in
      subst P (sym so_far.at_is) (IsCharBoundary-at_seam text so_far.front so_far.rest so_far.is so_far.rest_utf8)

  pub writes_within : at ≤ length text
  writes_within = omega (arith, so_far.at_is, ap length so_far.is, length-append so_far.front so_far.rest)

  writes_on : (more rest : List ℕ) (x : WriterState) → so_far.rest ≡ more ++ rest → IsUtf8 rest → AllGap x.gap → value x (lead indent x.left (chars rest)) ≡ value w (lead indent w.left (chars so_far.rest)) → WritesTo indent text (at + length more) x
  writes_on more rest x e v g s =
      record {
        front = so_far.front ++ more;
        rest = rest;
        is = so_far.is ∙ ap (λ l. so_far.front ++ l) e ∙ sym (append_assoc so_far.front more rest);
        at_is = omega (arith, so_far.at_is, length-append so_far.front more);
        rest_utf8 = v;
        gap = g;
        says = s ∙ so_far.says;
      }

  -- a run
  ran : (run more : List ℕ) (x : WriterState) → so_far.rest ≡ run ++ more → IsUtf8 run → IsUtf8 more → Runs w run x → WritesTo indent text (at + length run) x
  ran run more x e u v (inl (none, same)) =
      let P : WriterState → Type 0 = λ y. WritesTo indent text (at + length run) y in
      let all : chars more ≡ chars so_far.rest = sym (ap chars (e ∙ ap (λ l. l ++ more) none)) in
      subst P (sym same) (writes_on run more w e v so_far.gap (ap (λ l. value w (lead indent w.left l)) all))
  ran run more x e u v (inr (rest, inside, well, same)) =
      let P : WriterState → Type 0 = λ y. WritesTo indent text (at + length run) y in
      let cs : List ℕ = chars run in
      let run_is : encode_utf8_all cs ≡ run = encodes-chars run u in
      let all : chars so_far.rest ≡ cs ++ chars more = ap chars e ∙ chars-append run more u in
      let s = runs_value indent w cs (chars more) rest
      (chars_pass is_in_run high_in_run cs (ap (list_all is_in_run) run_is ∙ inside))
      (chars_end cs (ap ends_well run_is ∙ well))
      in
      subst P (sym same)
      (writes_on run more (with_run run w) e v so_far.gap
      (ap (λ l. value (with_run l w) (lead indent w.left (chars more))) (sym run_is) ∙ s ∙ ap (λ l. value w (lead indent w.left l)) (sym all)))

  writes_behind : (n : ℕ) (x : WriterState) → IsCharBoundary (drop at text) n → Runs w (take n (drop at text)) x → WritesTo indent text (at + n) x
  writes_behind n x b r =
      let U : List ℕ → Type 0 = λ l. IsUtf8 l in
      let u = subst U (sym writes_rest) so_far.rest_utf8 in
      let P : ℕ → Type 0 = λ k. WritesTo indent text (at + k) x in
      subst P (length-take-le n (drop at text) b.0)
      (ran (take n (drop at text)) (drop n (drop at text)) x (sym writes_rest ∙ sym (take-append-drop n (drop at text))) (IsUtf8-take (drop at text) n u b) (IsUtf8-drop (drop at text) n u b) r)

  pub writes_run : (ys : List ℕ) (n : ℕ) (x : WriterState) → ys ≡ drop at text → IsCharBoundary ys n → Runs w (take n ys) x → WritesTo indent text (at + n) x
  writes_run ys n x same b r =
      let P : List ℕ → Type 0 = λ l. IsCharBoundary l n × Runs w (take n l) x in
      let p = subst P same (b, r) in
      writes_behind n x p.0 p.1

  -- a character
  pub writes_char : (c : ℕ) (more : List ℕ) → drop at text ≡ encode_utf8 c ++ more → WritesTo indent text (at + len_utf8 c) (take_in indent c w)
  writes_char c more e =
      let is : so_far.rest ≡ encode_utf8 c ++ more = sym writes_rest ∙ e in
      let P : ℕ → Type 0 = λ k. WritesTo indent text (at + k) (take_in indent c w) in
      let t = takes indent c (chars more) w so_far.gap in
      subst P (length-encode c)
      (writes_on (encode_utf8 c) more (take_in indent c w) is (IsUtf8-past_char so_far.rest more c so_far.rest_utf8 is) t.gap
      (t.says ∙ ap (λ l. value w (lead indent w.left l)) (sym (chars_past_char so_far.rest more c so_far.rest_utf8 is))))

  pub writes_room : (c : ℕ) (more : List ℕ) → drop at text ≡ encode_utf8 c ++ more → at + len_utf8 c ≤ length text
  writes_room c more e =
      let is : so_far.rest ≡ encode_utf8 c ++ more = sym writes_rest ∙ e in
      omega (arith, so_far.at_is, ap length so_far.is, length-append so_far.front so_far.rest, ap length is, length-append (encode_utf8 c) more, length-encode c)

-- characters of ASCII
each_low : (indent : ℕ) (cs more : List ℕ) {text : List ℕ} {at : ℕ} {w : WriterState} → WritesTo indent text at w → drop at text ≡ cs ++ more → list_all is_ascii cs ≡ true → WritesTo indent text (at + length cs) (take_each indent cs w)
each_low indent [] more {text} {at} {w} so_far e low =
    let P : ℕ → Type 0 = λ k. WritesTo indent text k w in
    let z : at ≡ at + 0 = omega arith in
    subst P z so_far
each_low indent (c ∷ cs) more {text} {at} {w} so_far e low =
    let here : nat_lt c 128 ≡ true = and_first (nat_lt c 128) (list_all is_ascii cs) low in
    let below : c < 128 = grind (arith, nat_tests) in
    let one_byte : encode_utf8 c ≡ c ∷ [] = encode_ascii c below in
    let cut : drop at text ≡ encode_utf8 c ++ (cs ++ more) = e ∙ ap (λ l. l ++ (cs ++ more)) (sym one_byte) in
    let len : len_utf8 c ≡ 1 = sym (length-encode c) ∙ ap length one_byte in
    let P : ℕ → Type 0 = λ k. WritesTo indent text (at + k) (take_in indent c w) in
    let one = subst P len (writes_char so_far c (cs ++ more) cut) in
    let rest : drop (at + 1) text ≡ cs ++ more = sym (drop-drop 1 at text) ∙ ap (drop 1) e in
    let all = each_low indent cs more one rest (and_second (nat_lt c 128) (list_all is_ascii cs) low) in
    let Q : ℕ → Type 0 = λ k. WritesTo indent text k (take_each indent (c ∷ cs) w) in
    let sum : at + 1 + length cs ≡ at + length (c ∷ cs) = omega arith in
    subst Q sum all

pub writes_each : {indent : ℕ} {text : List ℕ} {at : ℕ} {w : WriterState} → WritesTo indent text at w → (ys : List ℕ) (n : ℕ) (x : WriterState) → ys ≡ drop at text → n ≤ length ys → TakesEach w (take n ys) x → WritesTo indent text (at + n) x
writes_each {indent} {text} {at} {w} so_far ys n x same le t =
    let cut : drop at text ≡ take n ys ++ drop n ys = sym same ∙ sym (take-append-drop n ys) in
    let all = each_low indent (take n ys) (drop n ys) so_far cut t.ascii in
    let P : ℕ × WriterState → Type 0 = λ y. WritesTo indent text (at + y.0) y.1 in
    let len = length-take-le n ys le in
    subst P (λ i. (len i, sym (t.each indent) i)) all

-- at the end
pub writes_all : (column : ℕ) {text : List ℕ} {at : ℕ} {w : WriterState} → WritesTo (column + 1) text at w → drop at text ≡ [] → all_of (trail w) ≡ quoted_value column text
writes_all column {text} {at} {w} so_far e =
    let none : chars so_far.rest ≡ [] = ap chars (sym (writes_rest so_far) ∙ e) ∙ chars-nil in
    ends w so_far.gap
    ∙ ap (λ l. value w (lead (column + 1) w.left l)) (sym none)
    ∙ so_far.says
    ∙ ap (λ l. read false (without_trailing l)) (lead_lines (column + 1) (chars text) 0 ∙ first_stays (column + 1) (lines_of (chars text)))
