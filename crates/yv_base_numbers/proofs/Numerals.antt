-- What the reader of digits answers is what a numeral writes.
use Rattle.std.proofs.Common.{◌≡◌, ℕ, suc, ◌+◌, ◌-◌, ◌*◌, ◌^◌, ◌<◌, ◌≤◌, Bool, true, false, cond, ◌&&◌, List, [], ◌∷◌, length, Option, Some, None, nat_lt, nat_le, refl, sym, ◌∙◌, ap, subst, mul_assoc, arith}
use Rattle.std.specs.Prelude.{◌↔◌}
use Rattle.std.specs.List.{list_all}
use Rattle.std.proofs.lemmas.Bool.{and_parts, and_from, ltb-true}
use Rattle.std.proofs.lemmas.Bool.Decides.{nat_tests}
use Rattle.std.proofs.Math.Nat.{pow-succ', pow-zero, mul-one, add-mul}
use Rattle.yv_base_numbers.specs.Numbers.{digit_of, is_digit, is_numeral, value_after, within_64_bits, natural_of}
use Rattle.yv_base_numbers.specs.Numerals.{IsDigit, figure, small, capital, IsDigitOf, below, IsNumeral, last, before, Within64Bits}
use Rattle.yv_base_numbers.proofs.DigitGrowth.{is_limited, fits}

digit_read : {c d : ℕ} → IsDigit c d → digit_of c ≡ d
digit_read (figure {c} {d} b e) = grind (arith, nat_tests)
digit_read (small {c} {d} {k} b e f) = grind (arith, nat_tests)
digit_read (capital {c} {d} {k} b e f) = grind (arith, nat_tests)

-- what is below 16 is a digit
third_digit : (c : ℕ) → digit_of c < 16 → (nat_le 48 c && nat_le c 57) ≡ false → (nat_le 97 c && nat_le c 102) ≡ false → (t : Bool) → (nat_le 65 c && nat_le c 70) ≡ t → IsDigit c (digit_of c)
third_digit c h e f true g = capital {k = c - 65} (grind (arith, nat_tests)) (grind (arith, nat_tests)) (grind (arith, nat_tests))
third_digit c h e f false g = absurd (grind (arith, nat_tests))

second_digit : (c : ℕ) → digit_of c < 16 → (nat_le 48 c && nat_le c 57) ≡ false → (t : Bool) → (nat_le 97 c && nat_le c 102) ≡ t → IsDigit c (digit_of c)
second_digit c h e true f = small {k = c - 97} (grind (arith, nat_tests)) (grind (arith, nat_tests)) (grind (arith, nat_tests))
second_digit c h e false f = third_digit c h e f _ refl

first_digit : (c : ℕ) → digit_of c < 16 → (t : Bool) → (nat_le 48 c && nat_le c 57) ≡ t → IsDigit c (digit_of c)
first_digit c h true e = figure (grind (arith, nat_tests)) (grind (arith, nat_tests))
first_digit c h false e = second_digit c h e _ refl

pub digit_found : (r c : ℕ) → r ≤ 16 → is_digit r c ≡ true → IsDigitOf r c (digit_of c)
digit_found r c b h =
    let small_enough : digit_of c < r = ltb-true _ _ h in
    below (first_digit c (omega arith) _ refl) small_enough

below_passes : (m n : ℕ) → m < n → nat_lt m n ≡ true
below_passes m n h = grind (arith, nat_tests)

pub digit_passes : {r c d : ℕ} → IsDigitOf r c d → (is_digit r c ≡ true) × (digit_of c ≡ d)
digit_passes {r} (below {c} {d} h b) = let e = digit_read h in (rw e (below_passes d r b), e)

-- ### place value

arrange : (n r d p v q w : ℕ) → q ≡ r * p → w ≡ d * p + v → (n * r + d) * p + v ≡ n * q + w
arrange n r d p v q w e f = rw (e, f) (omega (arith, add-mul (n * r) d p, mul_assoc n r p))

alone : (r d : ℕ) → 0 * r + d ≡ d
alone r d = omega arith

-- the number before moves up by as many places as digits follow
pub shifted : (r n : ℕ) (cs : List ℕ) → value_after r n cs ≡ n * r ^ length cs + value_after r 0 cs
shifted r n [] = rw (pow-zero, mul-one) (omega arith)
shifted r n (c ∷ cs) =
    let d = digit_of c in
    let p = r ^ length cs in
    let v = value_after r 0 cs in
    let first : value_after r (n * r + d) cs ≡ (n * r + d) * p + v = shifted r (n * r + d) cs in
    let second : value_after r (0 * r + d) cs ≡ d * p + v = ap (λ m. value_after r m cs) (alone r d) ∙ shifted r d cs in
    first ∙ arrange n r d p v (r ^ suc (length cs)) _ (pow-succ' r (length cs)) second

pub led : (r c : ℕ) (cs : List ℕ) → value_after r 0 (c ∷ cs) ≡ digit_of c * r ^ length cs + value_after r 0 cs
led r c cs = ap (λ m. value_after r m cs) (alone r (digit_of c)) ∙ shifted r (digit_of c) cs

pub digits_pass : {r n : ℕ} {cs : List ℕ} → IsNumeral r cs n → list_all (is_digit r) cs ≡ true
digits_pass (last h) = and_from _ _ (digit_passes h).0 refl
digits_pass (before h g) = and_from _ _ (digit_passes h).0 (digits_pass g)

pub value_read : {r n : ℕ} {cs : List ℕ} → IsNumeral r cs n → value_after r 0 cs ≡ n
value_read {r} (last {c} {d} h) = alone r (digit_of c) ∙ (digit_passes h).1
value_read {r} (before {c} {d} {n} {cs} h g) = led r c cs ∙ rw ((digit_passes h).1, value_read g) refl

some_first : (c : ℕ) (cs : List ℕ) → nat_lt 0 (length (c ∷ cs)) ≡ true
some_first c cs = grind (arith, nat_tests)

pub numeral_passes : {r n : ℕ} {cs : List ℕ} → IsNumeral r cs n → is_numeral r cs ≡ true
numeral_passes (last {c} h) = and_from _ _ (some_first c []) (digits_pass (last h))
numeral_passes (before {c} {d} {n} {cs} h g) = and_from _ _ (some_first c cs) (digits_pass (before h g))

first_found : (r c : ℕ) (cs : List ℕ) → r ≤ 16 → list_all (is_digit r) (c ∷ cs) ≡ true → IsNumeral r (c ∷ cs) (value_after r 0 (c ∷ cs))
first_found r c [] b h = subst (λ n. IsNumeral r (c ∷ []) n) (sym (alone r (digit_of c))) (last (digit_found r c b (and_parts _ _ h).0))
first_found r c (d ∷ ds) b h =
    let parts = and_parts _ _ h in
    subst (λ n. IsNumeral r (c ∷ d ∷ ds) n) (sym (led r c (d ∷ ds))) (before (digit_found r c b parts.0) (first_found r d ds b parts.1))

pub numeral_found : (r : ℕ) (cs : List ℕ) → r ≤ 16 → is_numeral r cs ≡ true → IsNumeral r cs (value_after r 0 cs)
numeral_found r [] b h = absurd (cc)
numeral_found r (c ∷ cs) b h = first_found r c cs b (and_parts _ _ h).1

-- ### limits

pub if_some : {X : Type 0} (b : Bool) (o : Option X) (x : X) → cond b o None ≡ Some x → (b ≡ true) × (o ≡ Some x)
if_some true o x h = (refl, h)
if_some false o x h = absurd (cc)

pub naturals : (r : ℕ) (ds : List ℕ) (n : ℕ) → r ≤ 16 → (natural_of r ds ≡ Some n) ↔ Within64Bits (IsNumeral r) ds n
unfolding natural_of
naturals r ds n b = (to, from)
  where
    to : cond (is_numeral r ds) (within_64_bits (value_after r 0 ds)) None ≡ Some n → Within64Bits (IsNumeral r) ds n
    to h =
        let parts = if_some (is_numeral r ds) (within_64_bits (value_after r 0 ds)) n h in
        let bound = is_limited n (value_after r 0 ds) (sym parts.1) in
        (subst (λ m. IsNumeral r ds m) (sym bound.0) (numeral_found r ds b parts.0), subst (λ m. m < 2 ^ 64) (sym bound.0) bound.1)

    from : Within64Bits (IsNumeral r) ds n → cond (is_numeral r ds) (within_64_bits (value_after r 0 ds)) None ≡ Some n
    from h = rw (numeral_passes h.0, value_read h.0) (fits n h.1)
