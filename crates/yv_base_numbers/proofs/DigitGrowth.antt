-- Numbers that digits write, as they grow.
use Rattle.std.proofs.Common.{◌≡◌, ℕ, suc, ◌+◌, ◌-◌, ◌*◌, ◌^◌, ◌<◌, ◌≤◌, Bool, true, false, List, [], ◌∷◌, ◌++◌, drop, length, get_or, Option, Some, None, nat_lt, refl, sym, ◌∙◌, ap, arith, add-one, cond}
use Rattle.std.proofs.lemmas.Bool.Decides.{nat_tests}
use Rattle.std.proofs.Math.Nat.{one-le-pow, mul-le-mul_left, pow-succ', pow-zero, mul-one}
use Rattle.std.proofs.Common.{mul_assoc}
use Rattle.std.proofs.lemmas.Bool.{ltb-true}
use Rattle.std.proofs.lemmas.List.{drop_all}
use Rattle.std.proofs.Math.Seq.{drop-cons}
use Rattle.yv_base_numbers.specs.Numbers.{value_after, digit_of, within_64_bits}

pub above : (m n : ℕ) → m ≤ n → within_64_bits m ≡ None → within_64_bits n ≡ None
above m n low h = grind (arith, nat_tests)

grows : (r n : ℕ) (xs : List ℕ) → 1 ≤ r → n ≤ value_after r n xs
grows r n [] h = omega arith
grows r n (x ∷ xs) h = omega (arith, mul-le-mul_left n h, grows r (n * r + digit_of x) xs h)

pub digit_step : (r n i d : ℕ) (xs : List ℕ) → i < length xs → value_after r n (drop i xs) ≡ value_after r (n * r + digit_of (get_or xs i d)) (drop (i + 1) xs)
digit_step r n i d xs b = ap (value_after r n) (drop-cons xs i d b ∙ ap (λ j. get_or xs i d ∷ drop j xs) (sym (add-one i)))

some_if : (b : Bool) (m n : ℕ) → Some m ≡ cond b (Some n) None → (b ≡ true) × (m ≡ n)
some_if true m n h = (refl, cc)
some_if false m n h = absurd (cc)

pub all_dropped : (xs : List ℕ) (i : ℕ) → length xs ≤ i → drop i xs ≡ []
all_dropped xs i h = drop_all i xs h

pub is_limited : (m n : ℕ) → Some m ≡ within_64_bits n → (m ≡ n) × (n < 2 ^ 64)
is_limited m n h = let p = some_if (nat_lt n (2 ^ 64)) m n h in (p.1, ltb-true n (2 ^ 64) p.0)

pub fits : (n : ℕ) → n < 2 ^ 64 → within_64_bits n ≡ Some n
fits n h = grind (arith, nat_tests)

pub zeros_step : (n i k : ℕ) → i < k → n * 10 ^ (k - i) ≡ (n * 10) * 10 ^ (k - (i + 1))
zeros_step n i k b =
    let e : k - i ≡ suc (k - (i + 1)) = omega arith in
    ap (λ j. n * 10 ^ j) e ∙ ap (λ m. n * m) (pow-succ' 10 (k - (i + 1))) ∙ sym (mul_assoc n 10 (10 ^ (k - (i + 1))))

pub too_big : (r n : ℕ) (xs : List ℕ) → 1 ≤ r → within_64_bits n ≡ None → within_64_bits (value_after r n xs) ≡ None
too_big r n xs b h = above n (value_after r n xs) (grows r n xs b) h

pub zeros_too_big : (n k : ℕ) → within_64_bits n ≡ None → within_64_bits (n * 10 ^ k) ≡ None
zeros_too_big n k h =
    let one : 1 ≤ 10 ^ k = one-le-pow k 10 (omega arith) in
    above n (n * 10 ^ k) (omega (arith, mul-le-mul_left n one)) h

pub zeros_end : (n i k : ℕ) → k ≤ i → n * 10 ^ (k - i) ≡ n
zeros_end n i k h =
    let e : k - i ≡ 0 = omega arith in
    ap (λ j. n * 10 ^ j) e ∙ ap (λ m. n * m) (pow-zero 10) ∙ mul-one n

lt_false : (m n : ℕ) → n ≤ m → nat_lt m n ≡ false
lt_false m n h = grind (arith, nat_tests)

pub unlimited : (n : ℕ) → (n < 2 ^ 64 → ⊥) → within_64_bits n ≡ None
unlimited n h = rw (lt_false n (2 ^ 64) (omega (arith, h))) refl

pub joined : (n : ℕ) (xs ys : List ℕ) → value_after 10 n (xs ++ ys) ≡ value_after 10 (value_after 10 n xs) ys
joined n [] ys = refl
joined n (x ∷ xs) ys = joined (n * 10 + digit_of x) xs ys

-- the whole digits, the digits behind the point, and zeros
pub first_too_big : (xs ys : List ℕ) (k : ℕ) → within_64_bits (value_after 10 0 xs) ≡ None → within_64_bits (value_after 10 0 (xs ++ ys) * 10 ^ k) ≡ None
first_too_big xs ys k h = rw joined (zeros_too_big (value_after 10 (value_after 10 0 xs) ys) k (too_big 10 (value_after 10 0 xs) ys (omega arith) h))

pub second_too_big : (n : ℕ) (xs ys : List ℕ) (k : ℕ) → Some n ≡ within_64_bits (value_after 10 0 xs) → within_64_bits (value_after 10 n ys) ≡ None → within_64_bits (value_after 10 0 (xs ++ ys) * 10 ^ k) ≡ None
second_too_big n xs ys k e h = rw (joined, ← (is_limited n (value_after 10 0 xs) e).0) (zeros_too_big (value_after 10 n ys) k h)

pub all_three : (m n : ℕ) (xs ys : List ℕ) (k : ℕ) (r : Option ℕ) → Some m ≡ within_64_bits (value_after 10 0 xs) → Some n ≡ within_64_bits (value_after 10 m ys) → r ≡ within_64_bits (n * 10 ^ k) → r ≡ within_64_bits (value_after 10 0 (xs ++ ys) * 10 ^ k)
all_three m n xs ys k r e f g = rw (joined, ← (is_limited m (value_after 10 0 xs) e).0, ← (is_limited n (value_after 10 m ys) f).0) g
