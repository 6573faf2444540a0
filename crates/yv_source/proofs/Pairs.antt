-- The first bad backslash pair, and the newer files in which it counts.
use Rattle.std.proofs.Common.{◌≡◌, ℕ, suc, ◌+◌, ◌-◌, ◌<◌, ◌≤◌, drop, add-zero, Bool, true, false, cond, ◌==◌, ◌&&◌, ◌||◌, List, [], ◌∷◌, ◌++◌, length, Option, Some, None, refl, sym, ◌∙◌, ap, subst, inl, inr, arith, append_assoc, length-append}
use Rattle.std.proofs.lemmas.Bool.{eqb-true, or_cases, cases_Bool}
use Rattle.std.proofs.lemmas.Slice.Eq.{bytes_eq-Decides}
use Rattle.std.specs.Prelude.{bytes_eq}
use Rattle.yv_text_statement.specs.Tree.{Forest, End, Then, trees}
use Rattle.yv_source.specs.Pieces.{Piece, Blank, LineComment, BlockComment, Word, Single, Double, Semicolon, Open, Close, Plus, Token, token}
use Rattle.yv_source.specs.Escapes.{is_escape, begins_escape, all_pairs_good, IsBadPair}
use Rattle.yv_source.specs.Escapes.{inside_double, HasNoBadPair, HasBadPair, IsNewer, yang_version, newer}
use Rattle.yv_source.specs.Inner.Pairs.{bad_pair, offset_in_file, bad_on, is_newer_text, is_newer}
use Rattle.yv_source.proofs.Accepts.{append_nil}
use Rattle.yv_source.proofs.Keyword.{false_true, and_first, and_second}
use Rattle.std.proofs.lemmas.List.{drop-drop, drop_all, length-drop}
use Rattle.yv_source.specs.Pieces.{begins, until}
use Rattle.yv_source.proofs.MachineViews.{length-until}
use Rattle.yv_source.proofs.Until.{stopped}

abbrev pub IsFirstBad : Option ℕ → List Token → Type 0
IsFirstBad None ts = HasNoBadPair ts
IsFirstBad (Some n) ts = HasBadPair ts n

abbrev HasPair : Option ℕ → List ℕ → Type 0
HasPair None text = all_pairs_good false text ≡ true
HasPair (Some n) text = IsBadPair text n

good_on : (e : Bool) (a u : List ℕ) → all_pairs_good e a ≡ true → all_pairs_good e (a ++ u) ≡ all_pairs_good false u
good_on false [] u h = refl
good_on true [] u h = absurd (false_true h)
good_on false (b ∷ a) u h = good_on (b == 92) a u h
good_on true (b ∷ a) u h =
    ap (λ v. v && all_pairs_good false (a ++ u)) (and_first (is_escape b) (all_pairs_good false a) h)
    ∙ good_on false a u (and_second (is_escape b) (all_pairs_good false a) h)

-- what is known behind a front
abbrev Stand : Bool → List ℕ → Type 0
Stand false done = all_pairs_good false done ≡ true
Stand true done = (good : List ℕ) × (done ≡ good ++ 92 ∷ []) × (all_pairs_good false good ≡ true)

stand_on : (b : ℕ) (done : List ℕ) (v : Bool) → (b == 92) ≡ v → all_pairs_good false done ≡ true → Stand v (done ++ b ∷ [])
stand_on b done true e h = (done, ap (λ x. done ++ x ∷ []) (eqb-true b 92 e), h)
stand_on b done false e h = good_on false done (b ∷ []) h ∙ ap (λ v. all_pairs_good v []) e

bad_says : (e : Bool) (done t : List ℕ) → Stand e done → HasPair (bad_pair e (length done) t) (done ++ t)
bad_says false done [] h = ap (all_pairs_good false) (append_nil done) ∙ h
bad_says true done [] (good, is, h) =
    let l = ap length is in
    (good, [], append_nil done ∙ is, h, refl, omega (arith, l, length-append good (92 ∷ [])))
bad_says false done (b ∷ t) h =
    let P : ℕ × List ℕ → Type 0 = λ x. HasPair (bad_pair (b == 92) x.0 t) x.1 in
    let n : length (done ++ b ∷ []) ≡ length done + 1 = omega (arith, length-append done (b ∷ [])) in
    subst P (λ i. (n i, append_assoc done (b ∷ []) t i)) (bad_says (b == 92) (done ++ b ∷ []) t (stand_on b done (b == 92) refl h))
bad_says true done (b ∷ t) (good, is, h) =
    let Q : Option ℕ → Type 0 = λ x. HasPair x (done ++ b ∷ t) in
    elim (cases_Bool (is_escape b)) [
      | inl e ↦
          let P : ℕ × List ℕ → Type 0 = λ x. HasPair (bad_pair false x.0 t) x.1 in
          let n : length (done ++ b ∷ []) ≡ length done + 1 = omega (arith, length-append done (b ∷ [])) in
          let s : all_pairs_good false (done ++ b ∷ []) ≡ true =
          ap (λ l. all_pairs_good false (l ++ b ∷ [])) is ∙ ap (all_pairs_good false) (append_assoc good (92 ∷ []) (b ∷ []))
          ∙ good_on false good (92 ∷ b ∷ []) h ∙ ap (λ v. v && true) e
          in
          subst Q (sym (ap (λ v. cond v (bad_pair false (length done + 1) t) (Some (length done - 1))) e))
          (subst P (λ i. (n i, append_assoc done (b ∷ []) t i)) (bad_says false (done ++ b ∷ []) t s))
      | inr e ↦
          let l = ap length is in
          subst Q (sym (ap (λ v. cond v (bad_pair false (length done + 1) t) (Some (length done - 1))) e))
          (good, b ∷ t, ap (λ l. l ++ b ∷ t) is ∙ append_assoc good (92 ∷ []) (b ∷ t), h, e, omega (arith, l, length-append good (92 ∷ [])))
    ]

none_more : (ts us : List Token) → HasNoBadPair ts → HasNoBadPair us → HasNoBadPair (ts ++ us)
none_more [] us h k = k
none_more (t ∷ ts) us (g, h) k = (g, none_more ts us h k)

bad_more : (ts us : List Token) (n : ℕ) → HasBadPair ts n → HasBadPair (ts ++ us) n
bad_more ts us n h =
    record { before = h.before; token = h.token; others = h.others ++ us; place = h.place; is = ap (λ l. l ++ us) h.is ∙ append_assoc h.before (h.token ∷ h.others) us; good = h.good; bad = h.bad; offset_is = h.offset_is }

kept : (bad : Option ℕ) (ts us : List Token) → IsFirstBad bad ts → HasNoBadPair us → IsFirstBad bad (ts ++ us)
kept None ts us h k = none_more ts us h k
kept (Some n) ts us h k = bad_more ts us n h

new_pair : (ts : List Token) (done t : List ℕ) (r : Option ℕ) → HasNoBadPair ts → HasPair r t → IsFirstBad (offset_in_file (length done) r) (ts ++ record { front = done; piece = Double t } ∷ [])
new_pair ts done t None h p = none_more ts (record { front = done; piece = Double t } ∷ []) h (p, tt)
new_pair ts done t (Some n) h p =
    record { before = ts; token = record { front = done; piece = Double t }; others = []; place = n; is = refl; good = h; bad = p; offset_is = refl }

double_on : (bad : Option ℕ) (ts : List Token) (done t : List ℕ) → IsFirstBad bad ts → IsFirstBad (bad_on bad (length done) (Double t)) (ts ++ record { front = done; piece = Double t } ∷ [])
double_on None ts done t h = new_pair ts done t (bad_pair false 0 t) h (bad_says false [] t refl)
double_on (Some n) ts done t h = bad_more ts (record { front = done; piece = Double t } ∷ []) n h

pub bad_goes_on : (bad : Option ℕ) (ts : List Token) (done : List ℕ) (p : Piece) → IsFirstBad bad ts → IsFirstBad (bad_on bad (length done) p) (ts ++ token done p)
bad_goes_on bad ts done (Blank b) h = kept bad ts [] h tt
bad_goes_on bad ts done (LineComment t) h = kept bad ts [] h tt
bad_goes_on bad ts done (BlockComment t) h = kept bad ts [] h tt
bad_goes_on bad ts done (Word t) h = kept bad ts (token done (Word t)) h (refl, tt)
bad_goes_on bad ts done (Single t) h = kept bad ts (token done (Single t)) h (refl, tt)
bad_goes_on bad ts done (Double t) h = double_on bad ts done t h
bad_goes_on bad ts done Semicolon h = kept bad ts (token done Semicolon) h (refl, tt)
bad_goes_on bad ts done Open h = kept bad ts (token done Open) h (refl, tt)
bad_goes_on bad ts done Close h = kept bad ts (token done Close) h (refl, tt)
bad_goes_on bad ts done Plus h = kept bad ts (token done Plus) h (refl, tt)

-- there is one first bad pair
tail_bad : (rest : List ℕ) → begins_escape rest ≡ false → all_pairs_good true rest ≡ false
tail_bad [] h = refl
tail_bad (b ∷ rest) h = ap (λ v. v && all_pairs_good false rest) h

pub not_good : (text : List ℕ) (n : ℕ) → IsBadPair text n → all_pairs_good false text ≡ true → ⊥
not_good text n (good, rest, is, g, e, p) h =
    false_true (sym (ap (all_pairs_good false) is ∙ good_on false good (92 ∷ rest) g ∙ tail_bad rest e) ∙ h)

tail_found : (k : ℕ) (rest : List ℕ) → begins_escape rest ≡ false → bad_pair true (k + 1) rest ≡ Some (k + 0)
tail_found k [] h = let e : k + 1 - 1 ≡ k + 0 = omega arith in ap (λ n. Some n) e
tail_found k (b ∷ rest) h =
    let e : k + 1 - 1 ≡ k + 0 = omega arith in
    ap (λ v. cond v (bad_pair false (k + 1 + 1) rest) (Some (k + 1 - 1))) h ∙ ap (λ n. Some n) e

pair_found : (e : Bool) (k : ℕ) (good rest : List ℕ) → all_pairs_good e good ≡ true → begins_escape rest ≡ false → bad_pair e k (good ++ 92 ∷ rest) ≡ Some (k + length good)
pair_found false k [] rest g h = tail_found k rest h
pair_found true k [] rest g h = absurd (false_true g)
pair_found false k (b ∷ good) rest g h =
    let e : k + 1 + length good ≡ k + length (b ∷ good) = omega arith in
    pair_found (b == 92) (k + 1) good rest g h ∙ ap (λ n. Some n) e
pair_found true k (b ∷ good) rest g h =
    let e : k + 1 + length good ≡ k + length (b ∷ good) = omega arith in
    ap (λ v. cond v (bad_pair false (k + 1) (good ++ 92 ∷ rest)) (Some (k - 1))) (and_first (is_escape b) (all_pairs_good false good) g)
    ∙ pair_found false (k + 1) good rest (and_second (is_escape b) (all_pairs_good false good) g) h ∙ ap (λ n. Some n) e

some_same : (a b : ℕ) → Some a ≡ Some b → a ≡ b
some_same a b e = cc

one_pair : (text : List ℕ) (n m : ℕ) → IsBadPair text n → IsBadPair text m → n ≡ m
one_pair text n m (a, r, is, g, e, p) (b, s, is', g', e', p') =
    let x = pair_found false 0 a r g e in
    let y = pair_found false 0 b s g' e' in
    let z = some_same (0 + length a) (0 + length b) (sym (ap (bad_pair false 0) is ∙ x) ∙ (ap (bad_pair false 0) is' ∙ y)) in
    omega (arith, p, p', z)

head_same : (t u : Token) (ts us : List Token) → t ∷ ts ≡ u ∷ us → t ≡ u
head_same t u ts us e = cc

tail_same : (t u : Token) (ts us : List Token) → t ∷ ts ≡ u ∷ us → ts ≡ us
tail_same t u ts us e = cc

one_bad : (x y : List Token) (t u : Token) (o p : List Token) (n m : ℕ) → x ++ t ∷ o ≡ y ++ u ∷ p → HasNoBadPair x → HasNoBadPair y → IsBadPair (inside_double t.piece) n → IsBadPair (inside_double u.piece) m → length t.front + 1 + n ≡ length u.front + 1 + m
one_bad [] [] t u o p n m e g h b c =
    let same = head_same t u o p e in
    let P : Token → Type 0 = λ v. IsBadPair (inside_double v.piece) n in
    let q = one_pair (inside_double u.piece) n m (subst P same b) c in
    let l = ap (λ (v : Token). length v.front) same in
    omega (arith, l, q)
one_bad [] (v ∷ y) t u o p n m e g (h, k) b c =
    let same = head_same t v o (y ++ u ∷ p) e in
    let P : Token → Type 0 = λ w. IsBadPair (inside_double w.piece) n in
    absurd (not_good (inside_double v.piece) n (subst P same b) h)
one_bad (v ∷ x) [] t u o p n m e (g, k) h b c =
    let same = head_same v u (x ++ t ∷ o) p e in
    let P : Token → Type 0 = λ w. IsBadPair (inside_double w.piece) m in
    absurd (not_good (inside_double v.piece) m (subst P (sym same) c) g)
one_bad (v ∷ x) (w ∷ y) t u o p n m e (g, k) (h, l) b c = one_bad x y t u o p n m (tail_same v w (x ++ t ∷ o) (y ++ u ∷ p) e) k l b c

pub one_escape : (ts : List Token) (n m : ℕ) → HasBadPair ts n → HasBadPair ts m → n ≡ m
one_escape ts n m a b =
    a.offset_is ∙ one_bad a.before b.before a.token b.token a.others b.others a.place b.place (sym a.is ∙ b.is) a.good b.good a.bad b.bad ∙ sym b.offset_is

good_at : (x : List Token) (t : Token) (o : List Token) → HasNoBadPair (x ++ t ∷ o) → all_pairs_good false (inside_double t.piece) ≡ true
good_at [] t o (h, k) = h
good_at (v ∷ x) t o (h, k) = good_at x t o k

pub not_both : (ts : List Token) (n : ℕ) → HasBadPair ts n → HasNoBadPair ts → ⊥
not_both ts n a h =
    let P : List Token → Type 0 = λ l. HasNoBadPair l in
    not_good (inside_double a.token.piece) a.place a.bad (good_at a.before a.token a.others (subst P a.is h))

-- newer files
newer_by : (o : Option (List ℕ)) → is_newer_text o ≡ true → o ≡ Some newer
newer_by None h = absurd (false_true h)
newer_by (Some x) h = ap (λ (l : List ℕ). Some l) ((bytes_eq-Decides x newer).0 h)

newer_text : (o : Option (List ℕ)) → o ≡ Some newer → is_newer_text o ≡ true
newer_text o e = ap is_newer_text e ∙ (bytes_eq-Decides newer newer).1 refl

or_second : (x y : Bool) → y ≡ true → (x || y) ≡ true
or_second true y h = refl
or_second false y h = h

pub newer_means : (f : Forest) → is_newer (trees f) ≡ true → IsNewer f
newer_means End h = absurd (false_true h)
newer_means (Then h c o) e =
    let k : Bool = bytes_eq h.keyword yang_version in
    let a : Bool = is_newer_text h.argument in
    elim (or_cases (k && a) (is_newer (trees o)) e) [
      | inl v ↦ inl ((bytes_eq-Decides h.keyword yang_version).0 (and_first k a v), newer_by h.argument (and_second k a v))
      | inr r ↦ inr (newer_means o r)
    ]

pub newer_test : (f : Forest) → IsNewer f → is_newer (trees f) ≡ true
newer_test End h = absurd h
newer_test (Then h c o) (inl (k, a)) =
    ap (λ v. (v && is_newer_text h.argument) || is_newer (trees o)) ((bytes_eq-Decides h.keyword yang_version).1 k)
    ∙ ap (λ v. v || is_newer (trees o)) (newer_text h.argument a)
newer_test (Then h c o) (inr r) = or_second (bytes_eq h.keyword yang_version && is_newer_text h.argument) (is_newer (trees o)) (newer_test o r)

pub not_newer : {A : Type 0} (f : Forest) → is_newer (trees f) ≡ false → IsNewer f → A
not_newer f e h = absurd (false_true (sym e ∙ newer_test f h))

-- ---- the search for the first bad pair
abbrev skipped : ℕ → List ℕ → ℕ → Option ℕ
skipped n l k = bad_pair false (n + k) (drop k l)

skips_at : (n x : ℕ) (xs : List ℕ) (v : Bool) → (x == 92) ≡ v → bad_pair false (n + 1) xs ≡ skipped (n + 1) xs (length (until (begins 92) xs)) → bad_pair false n (x ∷ xs) ≡ skipped n (x ∷ xs) (length (until (begins 92) (x ∷ xs)))
skips_at n x xs true e others =
    let k : length (until (begins 92) (x ∷ xs)) ≡ 0 = rw e refl in
    ap (λ m. bad_pair false m (x ∷ xs)) (sym (add-zero n)) ∙ ap (skipped n (x ∷ xs)) (sym k)
skips_at n x xs false e others =
    let k : length (until (begins 92) (x ∷ xs)) ≡ suc (length (until (begins 92) xs)) = rw e refl in
    let m : n + 1 + length (until (begins 92) xs) ≡ n + suc (length (until (begins 92) xs)) = omega arith in
    ap (λ v. bad_pair v (n + 1) xs) e ∙ others ∙ ap (λ i. bad_pair false i (drop (length (until (begins 92) xs)) xs)) m ∙ ap (skipped n (x ∷ xs)) (sym k)

bad_skips : (n : ℕ) (l : List ℕ) → bad_pair false n l ≡ skipped n l (length (until (begins 92) l))
bad_skips n [] = refl
bad_skips n (x ∷ xs) = skips_at n x xs (x == 92) refl (bad_skips (n + 1) xs)

pair_is_bad : (n : ℕ) (l : List ℕ) → begins 92 l ≡ true → begins_escape (drop 1 l) ≡ false → bad_pair false n l ≡ Some n
pair_is_bad n [] h f = absurd (false_true h)
pair_is_bad n (x ∷ []) h f = ap (λ v. bad_pair v (n + 1) []) h ∙ ap (λ k. Some k) (omega arith)
pair_is_bad n (x ∷ y ∷ ys) h f = ap (λ v. bad_pair v (n + 1) (y ∷ ys)) h ∙ ap (λ v. cond v (bad_pair false (n + 1 + 1) ys) (Some (n + 1 - 1))) f ∙ ap (λ k. Some k) (omega arith)

pair_is_good : (n : ℕ) (l : List ℕ) → begins 92 l ≡ true → begins_escape (drop 1 l) ≡ true → (2 ≤ length l) × (bad_pair false n l ≡ bad_pair false (n + 2) (drop 2 l))
pair_is_good n [] h f = absurd (false_true h)
pair_is_good n (x ∷ []) h f = absurd (false_true f)
pair_is_good n (x ∷ y ∷ ys) h f = (
  omega arith,
  ap (λ v. bad_pair v (n + 1) (y ∷ ys)) h ∙ ap (λ v. cond v (bad_pair false (n + 1 + 1) ys) (Some (n + 1 - 1))) f ∙ ap (λ k. bad_pair false k ys) (omega arith),
)

-- how far a text was searched, the bad pair being no earlier
pub record PairsTo (xs : List ℕ) (at : ℕ) : Type 0 where
  pub within : at ≤ length xs
  pub so_far : bad_pair false 0 xs ≡ bad_pair false at (drop at xs)

-- at a backslash, or at the text's end
abbrev pub PairsAt : List ℕ → ℕ → Type 0
PairsAt xs at = PairsTo xs at × (at < length xs → begins 92 (drop at xs) ≡ true)

pub pairs_on : (xs ys : List ℕ) (at k : ℕ) → PairsTo xs at → ys ≡ drop at xs → k ≡ length (until (begins 92) ys) → PairsAt xs (at + k)
pairs_on xs ys at k s same f =
    let l : List ℕ = drop at xs in
    let e : k ≡ length (until (begins 92) l) = f ∙ ap (λ m. length (until (begins 92) m)) same in
    let next : drop (length (until (begins 92) l)) l ≡ drop (at + k) xs = ap (λ j. drop j l) (sym e) ∙ drop-drop k at xs in (
      record {
        within = omega (arith, s.within, e, length-until (begins 92) l, length-drop at xs);
        so_far = s.so_far ∙ bad_skips at l ∙ ap (λ j. bad_pair false (at + j) (drop (length (until (begins 92) l)) l)) (sym e) ∙ ap (bad_pair false (at + k)) next;
      },
      λ lt. ap (begins 92) (sym next) ∙ stopped (begins 92) l (omega (arith, lt, e, length-drop at xs)),
    )

pub pairs_end : (xs : List ℕ) (at : ℕ) → PairsAt xs at → at ≡ length xs → None ≡ bad_pair false 0 xs
pairs_end xs at (s, h) e = sym (s.so_far ∙ ap (bad_pair false at) (drop_all at xs (omega (arith, e))))

pub pairs_room : (xs : List ℕ) (at : ℕ) → PairsAt xs at → (at ≡ length xs → ⊥) → at < length xs
pairs_room xs at (s, h) n = omega (arith, s.within, n)

pub pairs_bad : (xs ys : List ℕ) (at : ℕ) → PairsAt xs at → (at ≡ length xs → ⊥) → ys ≡ drop (at + 1) xs → begins_escape ys ≡ false → Some at ≡ bad_pair false 0 xs
pairs_bad xs ys at (s, h) n same f =
    let lt = pairs_room xs at (s, h) n in
    sym (s.so_far ∙ pair_is_bad at (drop at xs) (h lt) (ap begins_escape (drop-drop 1 at xs ∙ sym same) ∙ f))

pub pairs_past : (xs ys : List ℕ) (at : ℕ) → PairsAt xs at → (at ≡ length xs → ⊥) → ys ≡ drop (at + 1) xs → begins_escape ys ≡ true → PairsTo xs (at + 2)
pairs_past xs ys at (s, h) n same f =
    let lt = pairs_room xs at (s, h) n in
    let g = pair_is_good at (drop at xs) (h lt) (ap begins_escape (drop-drop 1 at xs ∙ sym same) ∙ f) in
    record {
      within = omega (arith, s.within, g.0, length-drop at xs);
      so_far = s.so_far ∙ g.1 ∙ ap (bad_pair false (at + 2)) (drop-drop 2 at xs);
    }
