-- Decimals are read as they are written.
use Rattle.std.proofs.Common.{◌≡◌, ℕ, zero, suc, ◌+◌, ◌-◌, ◌*◌, ◌^◌, ◌<◌, ◌≤◌, ◌==◌, min, Bool, true, false, cond, ◌&&◌, List, [], ◌∷◌, ◌++◌, take, drop, length, get_or, Option, Some, None, nat_lt, nat_eq, refl, sym, ◌∙◌, ap, subst, mul_assoc, append_assoc, append-nil, add-one, length-append, length-drop, nat_le, arith}
use Rattle.std.specs.Prelude.{◌↔◌, ◌⊎◌, ℤ, codes, position}
use Rattle.std.specs.List.{list_all, position_or_len}
use Rattle.std.proofs.Common.{inl, inr}
use Rattle.std.proofs.lemmas.Bool.{and_parts, and_from}
use Rattle.std.proofs.lemmas.Bool.Decides.{nat_tests}
use Rattle.std.proofs.lemmas.Nat.{pow-add}
use Rattle.std.proofs.lemmas.List.{take-append-drop, length-take}
use Rattle.std.proofs.lemmas.List.Folds.{list_all-append}
use Rattle.std.proofs.lemmas.List.Quantifiers.{position-Some}
use Rattle.std.proofs.Math.Seq.{take-append_seam, drop-cons}
use Rattle.std.proofs.Math.Nat.{pow-succ', pow-zero, mul-one, add-mul, mul_comm, mul-mul-mul_comm, le_of_mul-le-mul_right, one-le-pow, mul-le-mul_right}
use Rattle.yv_base_numbers.specs.Numbers.{digit_of, is_digit, is_numeral, value_after, within_64_bits, scaled_value, around_point, magnitude_of, scaled_of}
use Rattle.yv_base_numbers.specs.Numerals.{IsNumeral, last, before, IsScaled, whole, with_point, Within64Bits, IsDecimal}
use Rattle.yv_base_numbers.proofs.DigitGrowth.{is_limited, fits, joined}
use Rattle.yv_base_numbers.proofs.Numerals.{if_some, led, shifted, digits_pass, numeral_passes, numeral_found, value_read}
use Rattle.yv_base_numbers.proofs.Signs.{IsBare, equal_bytes, signed}
use Rattle.yv_base_numbers.proofs.Wholes.{numeral_bare, digit_bare}

abbrev value : List ℕ → ℕ
value ds = value_after 10 0 ds

abbrev are_digits : List ℕ → Bool
are_digits ds = list_all (is_digit 10) ds

abbrev are_zeros : List ℕ → Bool
are_zeros ds = list_all (λ b. b == 48) ds

-- ### values

joined_value : (xs ys : List ℕ) → value (xs ++ ys) ≡ value xs * 10 ^ length ys + value ys
joined_value xs ys = joined 0 xs ys ∙ shifted 10 (value xs) ys

zero_digit : (c : ℕ) → (c == 48) ≡ true → (digit_of c ≡ 0) × (is_digit 10 c ≡ true)
zero_digit c h = subst (λ b. (digit_of b ≡ 0) × (is_digit 10 b ≡ true)) (sym (equal_bytes c 48 h)) (refl, refl)

nothing : (n m p : ℕ) → n ≡ 0 → m ≡ 0 → n * p + m ≡ 0
nothing n m p e f = rw (e, f) (omega arith)

zeros_value : (ds : List ℕ) → are_zeros ds ≡ true → value ds ≡ 0
zeros_value [] h = refl
zeros_value (c ∷ cs) h =
    let parts = and_parts _ _ h in
    led 10 c cs ∙ nothing (digit_of c) (value cs) (10 ^ length cs) (zero_digit c parts.0).0 (zeros_value cs parts.1)

zeros_digits : (ds : List ℕ) → are_zeros ds ≡ true → are_digits ds ≡ true
zeros_digits [] h = refl
zeros_digits (c ∷ cs) h =
    let parts = and_parts _ _ h in
    and_from _ _ (zero_digit c parts.0).1 (zeros_digits cs parts.1)

digit_small : (c : ℕ) → is_digit 10 c ≡ true → digit_of c ≤ 9
digit_small c h = grind (arith, nat_tests)

only_zero : (c : ℕ) → digit_of c ≡ 0 → (c == 48) ≡ true
only_zero c h = grind (arith, nat_tests)

carried : (d p v : ℕ) → d ≤ 9 → v < p → d * p + v < 10 * p
carried d p v h b = omega (arith, mul-le-mul_right p h)

value_below : (ds : List ℕ) → are_digits ds ≡ true → value ds < 10 ^ length ds
value_below [] h = rw pow-zero (omega arith)
value_below (c ∷ cs) h =
    let parts = and_parts _ _ h in
    rw (led 10 c cs, pow-succ' 10 (length cs)) (carried (digit_of c) (10 ^ length cs) (value cs) (digit_small c parts.0) (value_below cs parts.1))

parts_nothing : (d p v : ℕ) → 1 ≤ p → d * p + v ≡ 0 → (d ≡ 0) × (v ≡ 0)
parts_nothing zero p v h e = (refl, omega (arith, e))
parts_nothing (suc d) p v h e = absurd (omega (arith, mul-le-mul_right p (one_more d)))
  where
    one_more : (d : ℕ) → 1 ≤ suc d
    one_more d = omega arith

tens : (k : ℕ) → 1 ≤ 10 ^ k
tens k = one-le-pow k 10 (omega arith)

value_zeros : (ds : List ℕ) → value ds ≡ 0 → are_zeros ds ≡ true
value_zeros [] e = refl
value_zeros (c ∷ cs) e =
    let parts = parts_nothing (digit_of c) (10 ^ length cs) (value cs) (tens (length cs)) (sym (led 10 c cs) ∙ e) in
    and_from _ _ (only_zero c parts.0) (value_zeros cs parts.1)

-- ### numbers round the point

gathered : (n a y c v : ℕ) → n * (a * c) + (y * c + v) ≡ (n * a + y) * c + v
gathered n a y c v = omega (arith, add-mul (n * a) y c, mul_assoc n a c)

swapped : (x b a c : ℕ) → x * b * (a * c) ≡ x * c * (a * b)
swapped x b a c = mul-mul-mul_comm x b a c ∙ ap (λ p. x * a * p) (mul_comm b c) ∙ sym (mul-mul-mul_comm x c a b)

forth : (n a y b c v : ℕ) → v ≡ 0 → (n * a + y) * b * (a * c) ≡ (n * (a * c) + (y * c + v)) * (a * b)
forth n a y b c v e =
    let x = n * a + y in
    let added : x * c + 0 ≡ x * c = omega arith in
    swapped x b a c ∙ ap (λ p. p * (a * b)) (sym (gathered n a y c v ∙ ap (λ q. x * c + q) e ∙ added))

cancel : (m n a : ℕ) → 1 ≤ a → m * a ≡ n * a → m ≡ n
cancel m n a h e =
    let up : m ≤ n = le_of_mul-le-mul_right (at_most (m * a) (n * a) e) (positive h) in
    let down : n ≤ m = le_of_mul-le-mul_right (at_most (n * a) (m * a) (sym e)) (positive h) in
    omega arith
  where
    at_most : (m n : ℕ) → m ≡ n → m ≤ n
    at_most m n e = omega arith

    positive : {a : ℕ} → 1 ≤ a → 0 < a
    positive h = omega arith

split : (m x c v : ℕ) → v < c → m * c ≡ x * c + v → (m ≡ x) × (v ≡ 0)
split m x c v b e = (same, none)
  where
    above : (t : Bool) → nat_lt x m ≡ t → t ≡ false
    above true h =
        let more : x + 1 ≤ m = grind (arith, nat_tests) in
        absurd (omega (arith, mul-le-mul_right c more, add-mul x 1 c))
    above false h = refl

    below : (t : Bool) → nat_lt m x ≡ t → t ≡ false
    below true h =
        let more : m + 1 ≤ x = grind (arith, nat_tests) in
        absurd (omega (arith, mul-le-mul_right c more, add-mul m 1 c))
    below false h = refl

    equal : (m x : ℕ) → nat_lt x m ≡ false → nat_lt m x ≡ false → m ≡ x
    equal m x h g = grind (arith, nat_tests)

    same : m ≡ x
    same = equal m x (above (nat_lt x m) refl) (below (nat_lt m x) refl)

    none : v ≡ 0
    none = omega (arith, ap (λ k. k * c) same)

back : (m n a y b c v : ℕ) → 1 ≤ a → v < c → (c ≡ 1) ⊎ (b ≡ 1) → m * (a * c) ≡ (n * (a * c) + (y * c + v)) * (a * b) → (v ≡ 0) × (m ≡ (n * a + y) * b)
back m n a y b c v some small one e = at one
  where
    x : ℕ
    x = n * a + y

    moved : (m a c : ℕ) → m * (a * c) ≡ m * c * a
    moved m a c = ap (λ p. m * p) (mul_comm a c) ∙ sym (mul_assoc m c a)

    plain : m * c ≡ ((n * a + y) * c + v) * b
    plain = cancel (m * c) (((n * a + y) * c + v) * b) a some (sym (moved m a c) ∙ e ∙ ap (λ p. p * (a * b)) (gathered n a y c v) ∙ moved ((n * a + y) * c + v) a b)

    at : (c ≡ 1) ⊎ (b ≡ 1) → (v ≡ 0) × (m ≡ (n * a + y) * b)
    at (inl h) =
        let none : v ≡ 0 = omega arith in
        (none, sym (mul-one m) ∙ ap (λ p. m * p) (sym h) ∙ plain ∙ ap (λ p. p * b) (ap (λ p. (n * a + y) * p + v) h ∙ ones (n * a + y) v none))
      where
        ones : (x v : ℕ) → v ≡ 0 → x * 1 + v ≡ x
        ones x v e = omega arith
    at (inr h) =
        let q = split m (n * a + y) c v small (plain ∙ ap (λ p. ((n * a + y) * c + v) * p) h ∙ mul-one ((n * a + y) * c + v)) in
        (q.1, q.0 ∙ sym (ap (λ p. (n * a + y) * p) h ∙ mul-one (n * a + y)))

-- ### a fraction in two parts: the places that are written, and what stands behind

read_parts : (w t u : List ℕ) (k m : ℕ) → are_zeros u ≡ true → m ≡ value (w ++ t) * 10 ^ k → m * 10 ^ length (t ++ u) ≡ (value w * 10 ^ length (t ++ u) + value (t ++ u)) * 10 ^ (length t + k)
read_parts w t u k m z e =
    rw (e, length-append t u, pow-add 10 (length t) (length u), pow-add 10 (length t) k, joined_value w t, joined_value t u) (forth (value w) (10 ^ length t) (value t) (10 ^ k) (10 ^ length u) (value u) (zeros_value u z))

one_power : (n : ℕ) → n ≡ 0 → 10 ^ n ≡ 1
one_power n e = ap (λ i. 10 ^ i) e ∙ pow-zero 10

written_parts : (w t u : List ℕ) (k m : ℕ) → are_digits u ≡ true → (length u ≡ 0) ⊎ (k ≡ 0) → m * 10 ^ length (t ++ u) ≡ (value w * 10 ^ length (t ++ u) + value (t ++ u)) * 10 ^ (length t + k) → (are_zeros u ≡ true) × (m ≡ value (w ++ t) * 10 ^ k)
written_parts w t u k m digits one e =
    let f = rw (length-append t u, pow-add 10 (length t) (length u), pow-add 10 (length t) k, joined_value t u) at e in
    let p = back m (value w) (10 ^ length t) (value t) (10 ^ k) (10 ^ length u) (value u) (tens (length t)) (value_below u digits) (ones one) f in
    (value_zeros u p.0, p.1 ∙ ap (λ n. n * 10 ^ k) (sym (joined_value w t)))
  where
    ones : (length u ≡ 0) ⊎ (k ≡ 0) → (10 ^ length u ≡ 1) ⊎ (10 ^ k ≡ 1)
    ones (inl h) = inl (one_power (length u) h)
    ones (inr h) = inr (one_power k h)

-- what the reader finds round the point
abbrev AreParts : ℕ → List ℕ → List ℕ → ℕ → Type 0
AreParts places w f m = (is_numeral 10 w ≡ true) × (are_digits f ≡ true) × (m * 10 ^ length f ≡ (value w * 10 ^ length f + value f) * 10 ^ places) × (m < 2 ^ 64)

shown_places : (f : List ℕ) (places : ℕ) → length (take (min (length f) places) f) + (places - min (length f) places) ≡ places
shown_places f places = omega (arith, length-take (min (length f) places) f)

either_none : (f : List ℕ) (places : ℕ) → (length (drop (min (length f) places) f) ≡ 0) ⊎ (places - min (length f) places ≡ 0)
either_none f places = at (nat_le (length f) places) refl
  where
    at : (t : Bool) → nat_le (length f) places ≡ t → (length (drop (min (length f) places) f) ≡ 0) ⊎ (places - min (length f) places ≡ 0)
    at true h = let le : length f ≤ places = grind (arith, nat_tests) in inl (omega (arith, length-drop (min (length f) places) f))
    at false h = let le : places ≤ length f = grind (arith, nat_tests) in inr (omega arith)

parts_read : (places : ℕ) (w f : List ℕ) (m : ℕ) → scaled_value places w f ≡ Some m → AreParts places w f m
unfolding scaled_value
parts_read places w f m h =
    let s = min (length f) places in
    let t = take s f in
    let u = drop s f in
    let p = if_some (is_numeral 10 w && (are_digits t && are_zeros u)) (within_64_bits (value (w ++ t) * 10 ^ (places - s))) m h in
    let q = and_parts _ _ p.0 in
    let r = and_parts (are_digits t) (are_zeros u) q.1 in
    let bound = is_limited m (value (w ++ t) * 10 ^ (places - s)) (sym p.1) in
    let cut : t ++ u ≡ f = take-append-drop s f in
    let digits : are_digits (t ++ u) ≡ true = list_all-append (is_digit 10) t u ∙ and_from _ _ r.0 (zeros_digits u r.1) in
    let equation = read_parts w t u (places - s) m r.1 bound.0 in (
      q.0,
      subst (λ g. are_digits g ≡ true) cut digits,
      subst (λ n. m * 10 ^ length f ≡ (value w * 10 ^ length f + value f) * 10 ^ n) (shown_places f places) (subst (λ g. m * 10 ^ length g ≡ (value w * 10 ^ length g + value g) * 10 ^ (length t + (places - s))) cut equation),
      subst (λ n. n < 2 ^ 64) (sym bound.0) bound.1,
    )

scaled_where : (places : ℕ) (w f : List ℕ) (m : ℕ) → AreParts places w f m → scaled_value places w f ≡ Some m
unfolding scaled_value
scaled_where places w f m h =
    let s = min (length f) places in
    let t = take s f in
    let u = drop s f in
    let cut : t ++ u ≡ f = take-append-drop s f in
    let digits = and_parts (are_digits t) (are_digits u) (sym (list_all-append (is_digit 10) t u) ∙ ap are_digits cut ∙ h.1) in
    let back_n = subst (λ n. m * 10 ^ length f ≡ (value w * 10 ^ length f + value f) * 10 ^ n) (sym (shown_places f places)) h.2 in
    let equation = subst (λ g. m * 10 ^ length g ≡ (value w * 10 ^ length g + value g) * 10 ^ (length t + (places - s))) (sym cut) back_n in
    let p = written_parts w t u (places - s) m digits.1 (either_none f places) equation in
    let tests : (is_numeral 10 w && (are_digits t && are_zeros u)) ≡ true = and_from _ _ h.0 (and_from _ _ digits.0 p.0) in
    ap (λ b. cond b (within_64_bits (value (w ++ t) * 10 ^ (places - s))) None) tests ∙ ap within_64_bits (sym p.1) ∙ fits m h.3

-- ### the point

abbrev is_point : ℕ → Bool
is_point b = b == 46

no_point : (c : ℕ) → is_digit 10 c ≡ true → is_point c ≡ false
no_point c h = grind (arith, nat_tests)

points_behind : (xs ys : List ℕ) → are_digits xs ≡ true → position_or_len is_point (xs ++ ys) ≡ length xs + position_or_len is_point ys
points_behind [] ys h = omega arith
points_behind (x ∷ xs) ys h =
    let parts = and_parts _ _ h in
    rw (no_point x parts.0, points_behind xs ys parts.1) (omega arith)

not_below : (m n : ℕ) → n ≤ m → nat_lt m n ≡ false
not_below m n h = grind (arith, nat_tests)

is_below : (m n : ℕ) → m < n → nat_lt m n ≡ true
is_below m n h = grind (arith, nat_tests)

without_point : (xs : List ℕ) → are_digits xs ≡ true → position is_point xs ≡ None
without_point xs h =
    let at : position_or_len is_point xs ≡ length xs = ap (position_or_len is_point) (sym (append-nil xs)) ∙ points_behind xs [] h ∙ none (length xs) in
    ap (λ b. cond b (Some (position_or_len is_point xs)) None) (ap (λ i. nat_lt i (length xs)) at ∙ not_below (length xs) (length xs) (omega arith))
  where
    none : (n : ℕ) → n + 0 ≡ n
    none n = omega arith

point_at : (xs ys : List ℕ) → are_digits xs ≡ true → position is_point (xs ++ 46 ∷ ys) ≡ Some (length xs)
point_at xs ys h =
    let at : position_or_len is_point (xs ++ 46 ∷ ys) ≡ length xs = points_behind xs (46 ∷ ys) h ∙ none (length xs) in
    let inside : length xs < length (xs ++ 46 ∷ ys) = omega (arith, length-append xs (46 ∷ ys)) in
    ap (λ i. cond (nat_lt i (length (xs ++ 46 ∷ ys))) (Some i) None) at ∙ ap (λ b. cond b (Some (length xs)) None) (is_below _ _ inside)
  where
    none : (n : ℕ) → n + 0 ≡ n
    none n = omega arith

drop_behind : (xs ys : List ℕ) (c : ℕ) → drop (length xs + 1) (xs ++ c ∷ ys) ≡ ys
drop_behind [] ys c = refl
drop_behind (x ∷ xs) ys c = ap (λ i. drop i (x ∷ xs ++ c ∷ ys)) (next (length xs)) ∙ drop_behind xs ys c
  where
    next : (n : ℕ) → suc n + 1 ≡ suc (n + 1)
    next n = omega arith

parted : (ds : List ℕ) (i : ℕ) → position is_point ds ≡ Some i → ds ≡ take i ds ++ 46 ∷ drop (i + 1) ds
parted ds i h =
    let p = position-Some is_point ds i 0 h in
    sym (take-append-drop i ds) ∙ ap (λ ys. take i ds ++ ys) (drop-cons ds i 0 p.0 ∙ rw (← add-one i) (ap (λ b. b ∷ drop (i + 1) ds) (equal_bytes (get_or ds i 0) 46 p.1)))

joint : (above below : List ℕ) → above ++ codes "." ++ below ≡ above ++ 46 ∷ below
joint above below = append_assoc above (codes ".") below

some_first : (f : List ℕ) → nat_eq (length f) 0 ≡ false → nat_lt 0 (length f) ≡ true
some_first f h = grind (arith, nat_tests)

no_length : (f : List ℕ) → is_numeral 10 f ≡ true → nat_eq (length f) 0 ≡ false
no_length f h = let some = (and_parts _ _ h).0 in at (length f) some
  where
    at : (n : ℕ) → nat_lt 0 n ≡ true → nat_eq n 0 ≡ false
    at n h = grind (arith, nat_tests)

unless : {X : Type 0} (b : Bool) (o : Option X) (x : X) → cond b None o ≡ Some x → (b ≡ false) × (o ≡ Some x)
unless true o x h = absurd (cc)
unless false o x h = (refl, h)

bare_value : (n : ℕ) → n * 1 + 0 ≡ n
bare_value n = omega arith

magnitude_found : (places : ℕ) (ds : List ℕ) (m : ℕ) → magnitude_of places ds ≡ Some m → Within64Bits (IsScaled places) ds m
unfolding magnitude_of
magnitude_found places ds m h = at (position is_point ds) refl h
  where
    at : (o : Option ℕ) → position is_point ds ≡ o → around_point places ds o ≡ Some m → Within64Bits (IsScaled places) ds m
    at None e k =
        let p = parts_read places ds [] m k in
        (whole (numeral_found 10 ds (omega arith) p.0) (sym (mul-one m) ∙ p.2 ∙ ap (λ n. n * 10 ^ places) (bare_value (value ds))), p.3)
    at (Some i) e k =
        let f = drop (i + 1) ds in
        let q = unless (nat_eq (length f) 0) (scaled_value places (take i ds) f) m k in
        let p = parts_read places (take i ds) f m q.1 in
        (with_point (parted ds i e ∙ sym (joint (take i ds) f)) (numeral_found 10 (take i ds) (omega arith) p.0) (numeral_found 10 f (omega arith) (and_from _ _ (some_first f q.0) p.1)) p.2, p.3)

around_at : (places : ℕ) (ds w f : List ℕ) (i m : ℕ) → take i ds ≡ w → drop (i + 1) ds ≡ f → nat_eq (length f) 0 ≡ false → scaled_value places w f ≡ Some m → around_point places ds (Some i) ≡ Some m
around_at places ds w f i m e g some h = rw (e, g, some) h

magnitude_where : (places : ℕ) (ds : List ℕ) (m : ℕ) → Within64Bits (IsScaled places) ds m → magnitude_of places ds ≡ Some m
unfolding magnitude_of
magnitude_where places ds m h = at h.0 h.1
  where
    at : {ds : List ℕ} {m : ℕ} → IsScaled places ds m → m < 2 ^ 64 → around_point places ds (position is_point ds) ≡ Some m
    at (whole {text} {m} {n} g e) b =
        let equation : m * 1 ≡ (value text * 1 + 0) * 10 ^ places = mul-one m ∙ e ∙ ap (λ k. k * 10 ^ places) (sym (bare_value (value text) ∙ value_read g)) in
        ap (around_point places text) (without_point text (digits_pass g)) ∙ scaled_where places text [] m (numeral_passes g, refl, equation, b)
    at (with_point {text} {above} {below} {m} {n} {f} same g k e) b =
        let l = 10 ^ length below in
        let equation : m * l ≡ (value above * l + value below) * 10 ^ places = e ∙ ap (λ q. q * 10 ^ places) (sym (rw (value_read g, value_read k) refl)) in
        let found = scaled_where places above below m (numeral_passes g, digits_pass k, equation, b) in
        ap (λ ds. around_point places ds (position is_point ds)) (same ∙ joint above below) ∙ ap (around_point places (above ++ 46 ∷ below)) (point_at above below (digits_pass g)) ∙ around_at places (above ++ 46 ∷ below) above below (length above) m (take-append_seam above (46 ∷ below)) (drop_behind above below 46) (no_length below (numeral_passes k)) found

led_bare : {r n : ℕ} {ds : List ℕ} (rest : List ℕ) → IsNumeral r ds n → IsBare (ds ++ rest)
led_bare rest (last h) = digit_bare rest h
led_bare rest (before {cs = cs} h g) = digit_bare (cs ++ rest) h

scaled_bare : {places m : ℕ} {ds : List ℕ} → IsScaled places ds m → IsBare ds
scaled_bare (whole h e) = numeral_bare h
scaled_bare (with_point {above = above} {below = below} same h g e) = subst IsBare (sym (same ∙ joint above below)) (led_bare (46 ∷ below) h)

pub decimals : (places : ℕ) (text : List ℕ) (z : ℤ) → (scaled_of places text ≡ Some z) ↔ IsDecimal places text z
unfolding scaled_of
decimals places text z = signed (magnitude_of places) (Within64Bits (IsScaled places)) (λ ds n. (magnitude_found places ds n, magnitude_where places ds n)) (λ ds n h. scaled_bare h.0) text z
