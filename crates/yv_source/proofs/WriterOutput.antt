-- The writer writes what the text says.
use Rattle.std.proofs.Common.{◌≡◌, ℕ, zero, suc, ◌-◌, Bool, true, false, cond, ◌==◌, ◌&&◌, ◌||◌, List, [], ◌∷◌, ◌++◌, refl, sym, ◌∙◌, ap, subst, inl, inr, ◌⊎◌, append_assoc, lit<}
use Rattle.std.specs.Prelude.{encode_utf8_all}
use Rattle.std.specs.Char.{encode_utf8}
use Rattle.std.proofs.lemmas.Bool.{eqb-true, or_cases}
use Rattle.std.proofs.lemmas.Str.{encodes-append, encode_ascii}
use Rattle.yv_source.specs.Pieces.{begins}
use Rattle.yv_source.specs.Quotes.{is_gap, spaces, unindent, onto_first, lines_of, all_unindented, but_the_first, breaks, without_trailing, escape, unescape}
use Rattle.yv_source.specs.Inner.Writer.{WriterState, escape_bytes, put_character, gap_bytes, is_behind, flush, without_gap, with_gap, with_left, keep, keep_plain, keep_spaces, settle, take_in, trail, all_of}
use Rattle.yv_source.proofs.Accepts.{append_nil}

-- the bytes of a text with its escapes read
abbrev pub read : Bool → List ℕ → List ℕ
read e t = encode_utf8_all (unescape e t)

abbrev put_out : Bool → ℕ → List ℕ
put_out e c = cond e (escape_bytes c) (cond (c == 92) [] (encode_utf8 c))

abbrev put_next : Bool → ℕ → Bool
put_next e c = cond e false (c == 92)

escape_by : (c : ℕ) (v : Bool) (x y : List ℕ) (a b : List ℕ) → encode_utf8_all x ≡ a → encode_utf8_all y ≡ b → encode_utf8_all (cond v x y) ≡ cond v a b
escape_by c true x y a b h k = h
escape_by c false x y a b h k = k

escape_bytes_is : (c : ℕ) → encode_utf8_all (escape c) ≡ escape_bytes c
escape_bytes_is c =
    escape_by c (c == 110) _ _ _ _ (append_nil (encode_utf8 10))
    (escape_by c (c == 116) _ _ _ _ (append_nil (encode_utf8 9))
    (escape_by c (c == 34 || c == 92) _ _ _ _ (append_nil (encode_utf8 c)) (ap (λ l. encode_utf8 92 ++ l) (append_nil (encode_utf8 c)))))

plain_puts : (v : Bool) (c : ℕ) (t : List ℕ) → cond v [] (encode_utf8 c) ++ read v t ≡ encode_utf8_all (cond v (unescape true t) (c ∷ unescape false t))
plain_puts true c t = refl
plain_puts false c t = refl

puts : (e : Bool) (c : ℕ) (t : List ℕ) → put_out e c ++ read (put_next e c) t ≡ read e (c ∷ t)
puts false c t = plain_puts (c == 92) c t
puts true c t = ap (λ l. l ++ read false t) (sym (escape_bytes_is c)) ∙ sym (encodes-append (escape c) (unescape false t))

-- spaces and tabs
abbrev IsGap : ℕ → Type 0
IsGap b = (b ≡ 32) ⊎ (b ≡ 9)

abbrev pub AllGap : List ℕ → Type 0
AllGap [] = Unit {0}
AllGap (b ∷ g) = IsGap b × AllGap g

pub is_gap_means : (c : ℕ) → is_gap c ≡ true → IsGap c
is_gap_means c e = elim (or_cases (c == 32) (c == 9) e) [ inl x ↦ inl (eqb-true c 32 x) | inr x ↦ inr (eqb-true c 9 x) ]

by_gap : (P : ℕ → Type 0) (b : ℕ) → IsGap b → P 32 → P 9 → P b
by_gap P b (inl e) h k = subst P (sym e) h
by_gap P b (inr e) h k = subst P (sym e) k

pub gap_ascii : (b : ℕ) → IsGap b → encode_utf8 b ≡ b ∷ []
gap_ascii b h = by_gap (λ x. encode_utf8 x ≡ x ∷ []) b h (encode_ascii 32 (lit< tt)) (encode_ascii 9 (lit< tt))

AllGap-append : (g : List ℕ) (b : ℕ) → AllGap g → IsGap b → AllGap (g ++ b ∷ [])
AllGap-append [] b h k = (k, tt)
AllGap-append (x ∷ g) b (h, r) k = (h, AllGap-append g b r k)

read_gap : (b : ℕ) → IsGap b → (u : List ℕ) → read false (b ∷ u) ≡ b ∷ read false u
read_gap b h u =
    by_gap (λ x. read false (x ∷ u) ≡ encode_utf8 x ++ read false u) b h refl refl ∙ ap (λ l. l ++ read false u) (gap_ascii b h)

read_gaps : (g u : List ℕ) → AllGap g → read false (g ++ u) ≡ g ++ read false u
read_gaps [] u h = refl
read_gaps (b ∷ g) u (h, r) = read_gap b h (g ++ u) ∙ ap (λ l. b ∷ l) (read_gaps g u r)

read_pair : (b : ℕ) → IsGap b → (u : List ℕ) → read true (b ∷ u) ≡ encode_utf8 92 ++ b ∷ read false u
read_pair b h u =
    by_gap (λ x. read true (x ∷ u) ≡ encode_utf8 92 ++ (encode_utf8 x ++ read false u)) b h refl refl ∙ ap (λ l. encode_utf8 92 ++ (l ++ read false u)) (gap_ascii b h)

flushes : (e : Bool) (g u : List ℕ) → AllGap g → gap_bytes e g ++ read (is_behind e g) u ≡ read e (g ++ u)
flushes true [] u h = refl
flushes false [] u h = refl
flushes false (b ∷ g) u h = sym (read_gaps (b ∷ g) u h)
flushes true (b ∷ g) u (h, r) =
    append_assoc (encode_utf8 92) (b ∷ g) (read false u)
    ∙ sym (read_pair b h (g ++ u) ∙ ap (λ l. encode_utf8 92 ++ b ∷ l) (read_gaps g u r))

-- before a line break, or not
breaks_gap : (g t : List ℕ) → AllGap g → breaks (g ++ t) ≡ breaks t
breaks_gap [] t h = refl
breaks_gap (b ∷ g) t (h, r) = by_gap (λ x. breaks (x ∷ (g ++ t)) ≡ breaks (g ++ t)) b h refl refl ∙ breaks_gap g t r

gap_step : (b : ℕ) → IsGap b → (u : List ℕ) → without_trailing (b ∷ u) ≡ cond (breaks u) (without_trailing u) (b ∷ without_trailing u)
gap_step b h u = by_gap (λ x. without_trailing (x ∷ u) ≡ cond (breaks u) (without_trailing u) (x ∷ without_trailing u)) b h refl refl

gaps_go : (g t : List ℕ) → AllGap g → breaks t ≡ true → without_trailing (g ++ t) ≡ without_trailing t
gaps_go [] t h e = refl
gaps_go (b ∷ g) t (h, r) e =
    gap_step b h (g ++ t) ∙ ap (λ v. cond v (without_trailing (g ++ t)) (b ∷ without_trailing (g ++ t))) (breaks_gap g t r ∙ e) ∙ gaps_go g t r e

gaps_stay : (g t : List ℕ) → AllGap g → breaks t ≡ false → without_trailing (g ++ t) ≡ g ++ without_trailing t
gaps_stay [] t h e = refl
gaps_stay (b ∷ g) t (h, r) e =
    gap_step b h (g ++ t) ∙ ap (λ v. cond v (without_trailing (g ++ t)) (b ∷ without_trailing (g ++ t))) (breaks_gap g t r ∙ e) ∙ ap (λ l. b ∷ l) (gaps_stay g t r e)

-- what is written in the end, if this text follows, but for its indent
abbrev pub crs : Bool → List ℕ
crs true = 13 ∷ []
crs false = []

abbrev pub value : WriterState → List ℕ → List ℕ
value w t = w.out ++ read w.escaped (without_trailing (w.gap ++ (crs w.cr ++ t)))

record Keeps (c : ℕ) (w x : WriterState) : Type 0 where
  gap : AllGap x.gap
  left : x.left ≡ w.left
  says : (t : List ℕ) → value x t ≡ value w (c ∷ t)

by_cond : (P : WriterState → Type 0) (b : Bool) (x y : WriterState) → (b ≡ true → P x) → (b ≡ false → P y) → P (cond b x y)
by_cond P true x y f g = f refl
by_cond P false x y f g = g refl

-- a character behind what was flushed
out_on : (out a : List ℕ) (e : Bool) (c : ℕ) (t u : List ℕ) → a ++ read e (c ∷ t) ≡ u → ((out ++ a) ++ put_out e c) ++ read (put_next e c) t ≡ out ++ u
out_on out a e c t u h =
    append_assoc (out ++ a) (put_out e c) (read (put_next e c) t) ∙ ap (λ l. (out ++ a) ++ l) (puts e c t)
    ∙ append_assoc out a (read e (c ∷ t)) ∙ ap (λ l. out ++ l) h

out_one : (out : List ℕ) (e : Bool) (c : ℕ) (t : List ℕ) → (out ++ put_out e c) ++ read (put_next e c) t ≡ out ++ read e (c ∷ t)
out_one out e c t = append_assoc out (put_out e c) (read (put_next e c) t) ∙ ap (λ l. out ++ l) (puts e c t)

no_cr : (w : WriterState) (t : List ℕ) → w.cr ≡ false → value w t ≡ w.out ++ read w.escaped (without_trailing (w.gap ++ t))
no_cr w t e = ap (λ v. w.out ++ read w.escaped (without_trailing (w.gap ++ (crs v ++ t)))) e

a_cr : (w : WriterState) (t : List ℕ) → w.cr ≡ true → value w t ≡ w.out ++ read w.escaped (without_trailing (w.gap ++ 13 ∷ t))
a_cr w t e = ap (λ v. w.out ++ read w.escaped (without_trailing (w.gap ++ (crs v ++ t)))) e

-- a character that is no blank and no part of a line break
pub other_breaks : (c : ℕ) (t : List ℕ) → is_gap c ≡ false → (c == 13) ≡ false → (c == 10) ≡ false → breaks (c ∷ t) ≡ false
other_breaks c t g r l =
    ap (λ (x : Bool × (Bool × Bool)). (x.0 || (x.1.0 && begins 10 t)) || (x.1.1 && breaks t)) (λ i. (l i, (r i, g i)))

pub other_stays : (c : ℕ) (t : List ℕ) → is_gap c ≡ false → without_trailing (c ∷ t) ≡ c ∷ without_trailing t
other_stays c t g = ap (λ v. cond (v && breaks t) (without_trailing t) (c ∷ without_trailing t)) g

keeps_plain : (c : ℕ) (w : WriterState) → AllGap w.gap → w.cr ≡ false → Keeps c w (keep_plain c w)
keeps_plain c w h e =
    by_cond (Keeps c w) (is_gap c) _ _
    (λ g. let gap = is_gap_means c g in
    let is : w.gap ++ encode_utf8 c ≡ w.gap ++ c ∷ [] = ap (λ l. w.gap ++ l) (gap_ascii c gap) in
    let A : List ℕ → Type 0 = λ l. AllGap l in
    record {
      gap = subst A (sym is) (AllGap-append w.gap c h gap);
      left = refl;
      says = λ t. no_cr (with_gap c w) t e ∙ ap (λ l. w.out ++ read w.escaped (without_trailing l)) (ap (λ l. l ++ t) is ∙ append_assoc w.gap (c ∷ []) t) ∙ sym (no_cr w (c ∷ t) e);
    })
    (λ g. by_cond (Keeps c w) (c == 13) _ _
    (λ r. record {
      gap = h;
      left = refl;
      says = λ t. ap (λ x. w.out ++ read w.escaped (without_trailing (w.gap ++ x ∷ t))) (sym (eqb-true c 13 r)) ∙ sym (no_cr w (c ∷ t) e);
    })
    (λ r. by_cond (Keeps c w) (c == 10) _ _
    (λ l. record {
      gap = tt;
      left = refl;
      says = λ t.
          no_cr (put_character 10 (without_gap w)) t e
          ∙ out_one w.out w.escaped 10 (without_trailing t)
          ∙ ap (λ x. w.out ++ read w.escaped x) (sym (gaps_go w.gap (10 ∷ t) h refl))
          ∙ ap (λ x. w.out ++ read w.escaped (without_trailing (w.gap ++ x ∷ t))) (sym (eqb-true c 10 l))
          ∙ sym (no_cr w (c ∷ t) e);
    })
    (λ l. record {
      gap = tt;
      left = refl;
      says = λ t.
          no_cr (put_character c (flush w)) t e
          ∙ out_on w.out (gap_bytes w.escaped w.gap) (is_behind w.escaped w.gap) c (without_trailing t) _ (flushes w.escaped w.gap (c ∷ without_trailing t) h)
          ∙ ap (λ x. w.out ++ read w.escaped x) (sym (gaps_stay w.gap (c ∷ t) h (other_breaks c t g r l) ∙ ap (λ x. w.gap ++ x) (other_stays c t g)))
          ∙ sym (no_cr w (c ∷ t) e);
    })))

settles : (w : WriterState) (t : List ℕ) → AllGap w.gap → begins 10 t ≡ false → value (settle w) t ≡ w.out ++ read w.escaped (without_trailing (w.gap ++ 13 ∷ t))
settles w t h b =
    out_on w.out (gap_bytes w.escaped w.gap) (is_behind w.escaped w.gap) 13 (without_trailing t) _ (flushes w.escaped w.gap (13 ∷ without_trailing t) h)
    ∙ ap (λ x. w.out ++ read w.escaped x) (sym (gaps_stay w.gap (13 ∷ t) h (ap (λ v. v || false) b)))

keeps : (c : ℕ) (w : WriterState) → AllGap w.gap → Keeps c w (keep c w)
keeps c w h =
    by_cond (Keeps c w) w.cr _ _
    (λ e. by_cond (Keeps c w) (c == 10) _ _
    (λ l. record {
      gap = tt;
      left = refl;
      says = λ t.
          out_one (w.out ++ put_out w.escaped 13) (put_next w.escaped 13) 10 (without_trailing t)
          ∙ out_one w.out w.escaped 13 (10 ∷ without_trailing t)
          ∙ ap (λ x. w.out ++ read w.escaped x) (sym (gaps_go w.gap (13 ∷ 10 ∷ t) h refl))
          ∙ ap (λ x. w.out ++ read w.escaped (without_trailing (w.gap ++ 13 ∷ x ∷ t))) (sym (eqb-true c 10 l))
          ∙ sym (a_cr w (c ∷ t) e);
    })
    (λ l. let k = keeps_plain c (settle w) tt refl in
    record {
      gap = k.gap;
      left = k.left;
      says = λ t. k.says t ∙ settles w (c ∷ t) h l ∙ sym (a_cr w (c ∷ t) e);
    }))
    (λ e. keeps_plain c w h e)

-- spaces
record Spaced (n : ℕ) (w x : WriterState) : Type 0 where
  gap : AllGap x.gap
  left : x.left ≡ w.left
  says : (t : List ℕ) → value x t ≡ value w (spaces n ++ t)

spaced : (n : ℕ) (w : WriterState) → AllGap w.gap → Spaced n w (keep_spaces n w)
spaced zero w h = record { gap = h; left = refl; says = λ t. refl }
spaced (suc n) w h =
    let k = keeps 32 w h in
    let s = spaced n (keep 32 w) k.gap in
    record { gap = s.gap; left = s.left ∙ k.left; says = λ t. s.says t ∙ k.says (spaces n ++ t) }

-- the indent
abbrev pub lead : ℕ → ℕ → List ℕ → List ℕ
lead n left [] = []
lead n left (c ∷ rest) =
    cond (c == 10) (c ∷ lead n n rest)
    (cond (left == 0) (c ∷ lead n left rest)
    (cond (c == 32) (lead n (left - 1) rest)
    (cond (c == 9) (spaces (8 - left) ++ lead n (left - 8) rest)
    (c ∷ lead n 0 rest))))

pub record Leads (indent c : ℕ) (t : List ℕ) (w x : WriterState) (u : List ℕ) : Type 0 where
  pub gap : AllGap x.gap
  pub says : value x (lead indent x.left t) ≡ value w u

-- both sides of one choice
by_both : (P : WriterState → List ℕ → Type 0) (b : Bool) (x y : WriterState) (u v : List ℕ) → (b ≡ true → P x u) → (b ≡ false → P y v) → P (cond b x y) (cond b u v)
by_both P true x y u v f g = f refl
by_both P false x y u v f g = g refl

led : (indent c : ℕ) (t : List ℕ) (w x : WriterState) (n : ℕ) → x.left ≡ n → Keeps c w x → Leads indent c t w x (c ∷ lead indent n t)
led indent c t w x n e k =
    record { gap = k.gap; says = ap (λ m. value x (lead indent m t)) e ∙ k.says (lead indent n t) }

pub takes : (indent c : ℕ) (t : List ℕ) (w : WriterState) → AllGap w.gap → Leads indent c t w (take_in indent c w) (lead indent w.left (c ∷ t))
takes indent c t w h =
    let P : WriterState → List ℕ → Type 0 = λ x u. Leads indent c t w x u in
    by_both P (c == 10) _ _ _ _
    (λ e.
    let k = keeps 10 w h in
    record { gap = k.gap; says = k.says (lead indent indent t) ∙ ap (λ x. value w (x ∷ lead indent indent t)) (sym (eqb-true c 10 e)) })
    (λ e. by_both P (w.left == 0) _ _ _ _
    (λ z. let k = keeps c w h in led indent c t w (keep c w) w.left k.left k)
    (λ z. by_both P (c == 32) _ _ _ _
    (λ s. record { gap = h; says = refl })
    (λ s. by_both P (c == 9) _ _ _ _
    (λ b.
    let k = spaced (8 - w.left) (with_left (w.left - 8) w) h in
    record { gap = k.gap; says = ap (λ m. value (keep_spaces (8 - w.left) (with_left (w.left - 8) w)) (lead indent m t)) k.left ∙ k.says (lead indent (w.left - 8) t) })
    (λ b.
    let k = keeps c (with_left 0 w) h in
    record { gap = k.gap; says = ap (λ m. value (keep c (with_left 0 w)) (lead indent m t)) k.left ∙ k.says (lead indent 0 t) }))))

-- the end
rest_of : (b : Bool) → cond b (encode_utf8 92) [] ≡ read b []
rest_of true = sym (append_nil (encode_utf8 92))
rest_of false = refl

ends_flushed : (w : WriterState) → AllGap w.gap → w.cr ≡ false → all_of (flush w) ≡ value w []
ends_flushed w h e =
    append_assoc w.out (gap_bytes w.escaped w.gap) (cond (is_behind w.escaped w.gap) (encode_utf8 92) [])
    ∙ ap (λ l. w.out ++ (gap_bytes w.escaped w.gap ++ l)) (rest_of (is_behind w.escaped w.gap))
    ∙ ap (λ l. w.out ++ l) (flushes w.escaped w.gap [] h)
    ∙ ap (λ l. w.out ++ read w.escaped l) (sym (gaps_stay w.gap [] h refl))
    ∙ sym (no_cr w [] e)

pub ends : (w : WriterState) → AllGap w.gap → all_of (trail w) ≡ value w []
ends w h =
    let P : WriterState → Type 0 = λ x. all_of (flush x) ≡ value w [] in
    by_cond P w.cr (settle w) w
    (λ e. ends_flushed (settle w) tt refl ∙ settles w [] h refl ∙ sym (a_cr w [] e))
    (λ e. ends_flushed w h e)

-- lines
abbrev first_unindented : ℕ → ℕ → List (List ℕ) → List ℕ
first_unindented n left [] = []
first_unindented n left (line ∷ others) = unindent left line ++ all_unindented n others

unindented_none : (line : List ℕ) → unindent 0 line ≡ line
unindented_none [] = refl
unindented_none (c ∷ line) = refl

onto_line : (c left : ℕ) (line others : List ℕ) (r : ℕ → List ℕ) → ((m : ℕ) → r m ≡ unindent m line ++ others) → (x y z : Bool) → (x ≡ true → left ≡ 0)
    → cond x (c ∷ r left) (cond y (r (left - 1)) (cond z (spaces (8 - left) ++ r (left - 8)) (c ∷ r 0)))
    ≡ cond x (c ∷ line) (cond y (unindent (left - 1) line) (cond z (spaces (8 - left) ++ unindent (left - 8) line) (c ∷ line))) ++ others
onto_line c left line others r h true y z e =
    ap (λ l. c ∷ l) (h left ∙ ap (λ n. unindent n line ++ others) (e refl) ∙ ap (λ l. l ++ others) (unindented_none line))
onto_line c left line others r h false true z e = h (left - 1)
onto_line c left line others r h false false true e =
    ap (λ l. spaces (8 - left) ++ l) (h (left - 8)) ∙ sym (append_assoc (spaces (8 - left)) (unindent (left - 8) line) others)
onto_line c left line others r h false false false e =
    ap (λ l. c ∷ l) (h 0 ∙ ap (λ l. l ++ others) (unindented_none line))

onto_lines : (n c left : ℕ) (lines : List (List ℕ)) (r : ℕ → List ℕ) → ((m : ℕ) → r m ≡ first_unindented n m lines)
    → cond (left == 0) (c ∷ r left) (cond (c == 32) (r (left - 1)) (cond (c == 9) (spaces (8 - left) ++ r (left - 8)) (c ∷ r 0)))
    ≡ first_unindented n left (onto_first c lines)
onto_lines n c left [] r h = onto_line c left [] [] r h (left == 0) (c == 32) (c == 9) (λ e. eqb-true left 0 e)
onto_lines n c left (line ∷ others) r h = onto_line c left line (all_unindented n others) r h (left == 0) (c == 32) (c == 9) (λ e. eqb-true left 0 e)

break_stays : (v : Bool) → cond {A = List ℕ} v (10 ∷ []) (10 ∷ []) ≡ 10 ∷ []
break_stays true = refl
break_stays false = refl

next_lines : (n : ℕ) (lines : List (List ℕ)) → first_unindented n n lines ≡ all_unindented n lines
next_lines n [] = refl
next_lines n (line ∷ others) = refl

by_choice : (b : Bool) (x y : List ℕ) (P : List (List ℕ) → List ℕ) (u v : List (List ℕ)) → (b ≡ true → x ≡ P u) → (b ≡ false → y ≡ P v) → cond b x y ≡ P (cond b u v)
by_choice true x y P u v f g = f refl
by_choice false x y P u v f g = g refl

pub lead_lines : (n : ℕ) (t : List ℕ) (left : ℕ) → lead n left t ≡ first_unindented n left (lines_of t)
lead_lines n [] left = refl
lead_lines n (c ∷ t) left =
    by_choice (c == 10) _ _ (first_unindented n left) _ _
    (λ e.
    let P : ℕ → Type 0 = λ x. x ∷ lead n n t ≡ unindent left (x ∷ []) ++ all_unindented n (lines_of t) in
    subst P (sym (eqb-true c 10 e))
    (ap (λ l. 10 ∷ l) (lead_lines n t n ∙ next_lines n (lines_of t)) ∙ ap (λ l. l ++ all_unindented n (lines_of t)) (sym (break_stays (left == 0)))))
    (λ e. onto_lines n c left (lines_of t) (λ m. lead n m t) (λ m. lead_lines n t m))

pub first_stays : (n : ℕ) (lines : List (List ℕ)) → first_unindented n 0 lines ≡ but_the_first n lines
first_stays n [] = refl
first_stays n (line ∷ others) = ap (λ l. l ++ all_unindented n others) (unindented_none line)
