-- What is read as a count is one.
use Rattle.std.proofs.Common.{◌≡◌, ℕ, ◌+◌, ◌-◌, ◌*◌, ◌<◌, ◌≤◌, ◌&&◌, ◌||◌, ◌==◌, not, Bool, true, false, List, [], ◌∷◌, ◌++◌, take, drop, length, min, nat_lt, nat_le, nat_eq, ◌⊎◌, inl, inr, Option, Some, None, refl, sym, ◌∙◌, ap, subst, arith, append_assoc, append-nil, length-append}
use Rattle.std.specs.List.{position, list_all}
use Rattle.std.proofs.lemmas.List.Folds.{list_all-append}
use Rattle.std.proofs.lemmas.Bool.{leb-true, lt-ltb}
use Rattle.std.proofs.lemmas.Bool.Decides.{nat_tests}
use Rattle.std.proofs.Math.Seq.{take-append_seam, drop-append-add}
use Rattle.yv_pattern.specs.InnerCounts.{decimal_after, is_digit, number_of, is_bound, are_in_order, are_bounds, is_count}
use Rattle.yv_pattern.specs.Counts.{Writes, digit, longer, IsBound, IsCount, exactly, at_least, between}
use Rattle.yv_pattern.proofs.FirstOccurrences.{both, at_found, finds, finds_none}

is_digit_of : (c : ℕ) → is_digit c ≡ true → (d : ℕ) × (d ≤ 9) × (c ≡ 48 + d)
is_digit_of c h =
    let b = both (nat_le 48 c) _ h in
    let low : 48 ≤ c = leb-true 48 c b.0 in
    let high : c ≤ 57 = leb-true c 57 b.1 in
    (c - 48, omega arith, omega arith)

-- digits behind digits
longer_by : (front : List ℕ) (n : ℕ) (ds : List ℕ) → Writes front n → list_all is_digit ds ≡ true → Writes (front ++ ds) (decimal_after n ds)
longer_by front n [] w h = subst (λ (xs : List ℕ). Writes xs n) (sym (append-nil front)) w
longer_by front n (c ∷ ds) w h =
    let b = both (is_digit c) _ h in
    let d = is_digit_of c b.0 in
    let number : 10 * n + d.0 ≡ 10 * n + (c - 48) = omega (arith, d.2) in
    let spelled : front ++ (48 + d.0) ∷ [] ≡ front ++ c ∷ [] = ap (λ (x : ℕ). front ++ x ∷ []) (sym d.2) in
    let next : Writes (front ++ c ∷ []) (10 * n + (c - 48)) = subst (λ (m : ℕ). Writes (front ++ c ∷ []) m) number (subst (λ (xs : List ℕ). Writes xs (10 * n + d.0)) spelled (longer front n d.0 w d.1)) in
    subst (λ (xs : List ℕ). Writes xs (decimal_after (10 * n + (c - 48)) ds)) (append_assoc front (c ∷ []) ds) (longer_by (front ++ c ∷ []) (10 * n + (c - 48)) ds next b.1)

writes : (ds : List ℕ) → nat_lt 0 (length ds) ≡ true → list_all is_digit ds ≡ true → Writes ds (decimal_after 0 ds)
writes [] h a = absurd (cc)
writes (c ∷ ds) h a =
    let b = both (is_digit c) _ a in
    let d = is_digit_of c b.0 in
    let number : d.0 ≡ 10 * 0 + (c - 48) = omega (arith, d.2) in
    let spelled : (48 + d.0) ∷ [] ≡ c ∷ [] = ap (λ (x : ℕ). x ∷ []) (sym d.2) in
    let next : Writes (c ∷ []) (10 * 0 + (c - 48)) = subst (λ (m : ℕ). Writes (c ∷ []) m) number (subst (λ (xs : List ℕ). Writes xs d.0) spelled (digit d.0 d.1)) in
    longer_by (c ∷ []) (10 * 0 + (c - 48)) ds next b.1

abbrev plain_number : List ℕ → ℕ
plain_number ds = decimal_after 0 ds

bound_of : (ds : List ℕ) → is_bound ds ≡ true → IsBound ds (decimal_after 0 ds) × (number_of ds ≡ decimal_after 0 ds)
unfolding is_bound
bound_of ds h =
    let a = both (nat_lt 0 (length ds)) _ h in
    let b = both (list_all is_digit ds) _ a.1 in
    let s : min (decimal_after 0 ds) 1001 ≤ 1000 = leb-true _ _ b.1 in
    (record { digits = writes ds a.0 b.0; small = omega (arith, s) }, omega (arith, s))

empty_of : (ds : List ℕ) → nat_eq (length ds) 0 ≡ true → ds ≡ []
empty_of [] h = refl
empty_of (d ∷ ds) h = absurd (grind (arith, nat_tests, h))

either_of : (a b : Bool) → (a || b) ≡ true → (a ≡ true) ⊎ (b ≡ true)
either_of true b h = inl refl
either_of false b h = inr h

pair_of : (low high : List ℕ) → are_in_order low high ≡ true → IsCount (low ++ 44 ∷ high)
unfolding are_in_order
pair_of low high h =
    let a = both (is_bound low) _ h in
    let l = bound_of low a.0 in
    elim (either_of (nat_eq (length high) 0) _ a.1) [
      | inl e ↦ rw (empty_of high e) (at_least low (decimal_after 0 low) l.0)
      | inr e ↦
          let b = both (is_bound high) _ e in
          let m = bound_of high b.0 in
          let s : number_of low ≤ number_of high = leb-true _ _ b.1 in
          between low high (decimal_after 0 low) (decimal_after 0 high) l.0 m.0 (omega (arith, s, l.1, m.1))
    ]

counts_from : (inner : List ℕ) (o : Option ℕ) → position (λ c. c == 44) inner ≡ o → are_bounds inner o ≡ true → IsCount inner
counts_from inner None e h = exactly inner (decimal_after 0 inner) (bound_of inner h).0
counts_from inner (Some i) e h = subst IsCount (sym (at_found 44 inner i e)) (pair_of (take i inner) (drop (i + 1) inner) h)

-- what is read as a count is one
pub counts_sound : (inner : List ℕ) → is_count inner ≡ true → IsCount inner
unfolding is_count
counts_sound inner h = counts_from inner _ refl h

-- the digits of a number
decimal_last : (n : ℕ) (xs : List ℕ) (x : ℕ) → decimal_after n (xs ++ x ∷ []) ≡ 10 * decimal_after n xs + (x - 48)
decimal_last n [] x = refl
decimal_last n (y ∷ ys) x = decimal_last (10 * n + (y - 48)) ys x

pub record Digits (ds : List ℕ) (n : ℕ) : Type 0 where
  pub all : list_all is_digit ds ≡ true
  pub some : 0 < length ds
  pub value : decimal_after 0 ds ≡ n

one_digit : (d : ℕ) → d ≤ 9 → is_digit (48 + d) ≡ true
one_digit d h = rw (lt-ltb 47 (48 + d) (omega (arith, h))) (grind (arith, nat_tests))

pub digits_of : (ds : List ℕ) (n : ℕ) → Writes ds n → Digits ds n
digits_of _ _ (digit d h) = record { all = rw (one_digit d h) refl; some = omega arith; value = omega arith }
digits_of _ _ (longer ds n d w h) =
    let k = digits_of ds n w in
    let last : list_all is_digit ((48 + d) ∷ []) ≡ true = rw (one_digit d h) refl in
    record {
      all = list_all-append is_digit ds ((48 + d) ∷ []) ∙ rw (k.all, last) refl;
      some = omega (arith, length-append ds ((48 + d) ∷ []));
      value = decimal_last 0 ds (48 + d) ∙ omega (arith, k.value);
    }

no_mark : (k c : ℕ) → (k < 48) ⊎ (57 < k) → is_digit c ≡ true → not (c == k) ≡ true
no_mark k c h e = let d = is_digit_of c e in grind (arith, nat_tests, d.1, d.2)

pub no_marks : (k : ℕ) (ds : List ℕ) → (k < 48) ⊎ (57 < k) → list_all is_digit ds ≡ true → list_all (λ c. not (c == k)) ds ≡ true
no_marks k [] h a = refl
no_marks k (c ∷ ds) h a =
    let b = both (is_digit c) _ a in
    rw (no_mark k c h b.0) (no_marks k ds h b.1)

two : (a b : Bool) → a ≡ true → b ≡ true → (a && b) ≡ true
two a b e f = rw (e, f) refl

positive : (n : ℕ) → 0 < n → nat_lt 0 n ≡ true
positive n h = lt-ltb 0 n h

at_most : (m n : ℕ) → m ≤ n → nat_le m n ≡ true
at_most m n h = grind (arith, nat_tests)

is_bound_of : (ds : List ℕ) (n : ℕ) → IsBound ds n → (is_bound ds ≡ true) × (number_of ds ≡ n)
unfolding is_bound
is_bound_of ds n b =
    let k = digits_of ds n b.digits in
    let value : number_of ds ≡ n = omega (arith, k.value, b.small) in
    (two _ _ (positive (length ds) k.some) (two _ _ k.all (at_most (number_of ds) 1000 (omega (arith, value, b.small)))), value)

no_comma : (ds : List ℕ) (n : ℕ) → IsBound ds n → list_all (λ c. not (c == 44)) ds ≡ true
no_comma ds n b = no_marks 44 ds (inl (omega arith)) (digits_of ds n b.digits).all

halves : (low high : List ℕ) → list_all (λ c. not (c == 44)) low ≡ true → are_in_order low high ≡ true → is_count (low ++ 44 ∷ high) ≡ true
unfolding is_count
halves low high a h =
    rw (finds (λ c. c == 44) low 44 high a refl, take-append_seam low (44 ∷ high), drop-append-add low (44 ∷ high) 1) h

in_order_alone : (low : List ℕ) → is_bound low ≡ true → are_in_order low [] ≡ true
unfolding are_in_order
in_order_alone low h = two _ _ h refl

in_order : (low high : List ℕ) → is_bound low ≡ true → is_bound high ≡ true → number_of low ≤ number_of high → are_in_order low high ≡ true
unfolding are_in_order
in_order low high a b h = two _ _ a (or_second _ _ (two _ _ b (at_most _ _ h)))
  where
    or_second : (x y : Bool) → y ≡ true → (x || y) ≡ true
    or_second true y e = refl
    or_second false y e = e

counts_alone : (ds : List ℕ) (n : ℕ) → IsBound ds n → is_count ds ≡ true
unfolding is_count
counts_alone ds n b = rw (finds_none (λ c. c == 44) ds (no_comma ds n b)) (is_bound_of ds n b).0

-- each count is read as one
pub counts_complete : (inner : List ℕ) → IsCount inner → is_count inner ≡ true
counts_complete _ (exactly ds n b) = counts_alone ds n b
counts_complete _ (at_least ds n b) = halves ds [] (no_comma ds n b) (in_order_alone ds (is_bound_of ds n b).0)
counts_complete _ (between ds es n m b c h) =
    let l = is_bound_of ds n b in
    let r = is_bound_of es m c in
    halves ds es (no_comma ds n b) (in_order ds es l.0 r.0 (omega (arith, l.1, r.1, h)))

-- no brace stands in a count
pub no_brace : (inner : List ℕ) → IsCount inner → list_all (λ c. not (c == 125)) inner ≡ true
no_brace _ (exactly ds n b) = no_marks 125 ds (inr (omega arith)) (digits_of ds n b.digits).all
no_brace _ (at_least ds n b) = list_all-append (λ c. not (c == 125)) ds (44 ∷ []) ∙ two _ _ (no_marks 125 ds (inr (omega arith)) (digits_of ds n b.digits).all) refl
no_brace _ (between ds es n m b c h) =
    list_all-append (λ c. not (c == 125)) ds (44 ∷ es) ∙ two _ _ (no_marks 125 ds (inr (omega arith)) (digits_of ds n b.digits).all) (no_marks 125 es (inr (omega arith)) (digits_of es m c.digits).all)
