-- Whole numbers are read as they are written.
use Rattle.std.proofs.Common.{◌≡◌, ℕ, ◌<◌, ◌^◌, ◌==◌, Bool, true, false, cond, List, [], ◌∷◌, Some, refl, sym, ◌∙◌, ap, subst, arith}
use Rattle.std.specs.Prelude.{◌↔◌, ℤ}
use Rattle.std.proofs.lemmas.Bool.Decides.{nat_tests}
use Rattle.yv_base_numbers.specs.Numbers.{natural_of, integer_of, zero_led, based_of, based_integer_of}
use Rattle.yv_base_numbers.specs.Numerals.{IsDigit, figure, small, capital, IsDigitOf, below, IsNumeral, last, before, Within64Bits, IsInteger, IsBasedNumeral, IsBasedInteger, decimal, zero, hexadecimal, octal}
use Rattle.yv_base_numbers.proofs.Numerals.{naturals}
use Rattle.yv_base_numbers.proofs.Signs.{IsBare, bare, equal_bytes, other_byte, signed}

no_sign : {c d : ℕ} → IsDigit c d → (c ≡ 43 → ⊥) × (c ≡ 45 → ⊥)
no_sign (figure b e) = (λ h. omega arith, λ h. omega arith)
no_sign (small b e f) = (λ h. omega arith, λ h. omega arith)
no_sign (capital b e f) = (λ h. omega arith, λ h. omega arith)

pub digit_bare : {r c d : ℕ} (cs : List ℕ) → IsDigitOf r c d → IsBare (c ∷ cs)
digit_bare cs (below {c} h b) = bare c cs (no_sign h).0 (no_sign h).1

pub numeral_bare : {r n : ℕ} {ds : List ℕ} → IsNumeral r ds n → IsBare ds
numeral_bare (last h) = digit_bare [] h
numeral_bare (before {cs = cs} h g) = digit_bare cs h

pub integers : (text : List ℕ) (z : ℤ) → (integer_of text ≡ Some z) ↔ IsInteger text z
unfolding integer_of
integers text z = signed (natural_of 10) (Within64Bits (IsNumeral 10)) (λ ds n. naturals 10 ds n (omega arith)) (λ ds n h. numeral_bare h.0) text z

-- ### numerals of defaults

not_x : {r c d : ℕ} → IsDigitOf r c d → (c == 120) ≡ false
not_x (below h b) = other_byte _ 120 (apart h)
  where
    apart : {c d : ℕ} → IsDigit c d → c ≡ 120 → ⊥
    apart (figure b e) h = omega arith
    apart (small b e f) h = omega arith
    apart (capital b e f) h = omega arith

octal_led : (cs : List ℕ) (n : ℕ) → Within64Bits (IsNumeral 8) cs n → zero_led cs ≡ Some n
octal_led cs n h = at h.0 ((naturals 8 cs n (omega arith)).1 h)
  where
    at : {cs : List ℕ} {n : ℕ} → IsNumeral 8 cs n → natural_of 8 cs ≡ Some n → zero_led cs ≡ Some n
    at (last h) g = rw (not_x h) g
    at (before h k) g = rw (not_x h) g

based_passes : (ds : List ℕ) (n : ℕ) → Within64Bits IsBasedNumeral ds n → based_of ds ≡ Some n
based_passes ds n h = at h.0 h.1
  where
    at : {ds : List ℕ} {n : ℕ} → IsBasedNumeral ds n → n < 2 ^ 64 → based_of ds ≡ Some n
    at (decimal {c} {n} {cs} other g) b = rw (other_byte c 48 other) ((naturals 10 (c ∷ cs) n (omega arith)).1 (g, b))
    at (zero same) b = ap based_of same
    at (hexadecimal {rest = rest} {n = n} same g) b = ap based_of same ∙ (naturals 16 rest n (omega arith)).1 (g, b)
    at (octal {rest = rest} {n = n} same g) b = ap based_of same ∙ octal_led rest n (g, b)

unequal_bytes : (m n : ℕ) → (m == n) ≡ false → m ≡ n → ⊥
unequal_bytes m n h e = grind (arith, nat_tests)

based_found : (ds : List ℕ) (n : ℕ) → based_of ds ≡ Some n → Within64Bits IsBasedNumeral ds n
based_found [] n h = absurd (cc)
based_found (c ∷ cs) n h = at (c == 48) refl h
  where
    behind : (ds : List ℕ) → c ≡ 48 → zero_led ds ≡ Some n → Within64Bits IsBasedNumeral (c ∷ ds) n
    behind [] e k = subst (λ m. Within64Bits IsBasedNumeral (c ∷ []) m) (zero_is n k) (zero (ap (λ b. b ∷ []) e), omega arith)
      where
        zero_is : (m : ℕ) → Some 0 ≡ Some m → 0 ≡ m
        zero_is m h = cc
    behind (d ∷ ds) e k = inner (d == 120) refl k
      where
        inner : (t : Bool) → (d == 120) ≡ t → cond t (natural_of 16 ds) (natural_of 8 (d ∷ ds)) ≡ Some n → Within64Bits IsBasedNumeral (c ∷ d ∷ ds) n
        inner true f k =
            let g = (naturals 16 ds n (omega arith)).0 k in
            (hexadecimal (ap (λ b. b ∷ d ∷ ds) e ∙ ap (λ b. 48 ∷ b ∷ ds) (equal_bytes d 120 f)) g.0, g.1)
        inner false f k =
            let g = (naturals 8 (d ∷ ds) n (omega arith)).0 k in
            (octal (ap (λ b. b ∷ d ∷ ds) e) g.0, g.1)

    at : (t : Bool) → (c == 48) ≡ t → cond t (zero_led cs) (natural_of 10 (c ∷ cs)) ≡ Some n → Within64Bits IsBasedNumeral (c ∷ cs) n
    at true e k = behind cs (equal_bytes c 48 e) k
    at false e k =
        let g = (naturals 10 (c ∷ cs) n (omega arith)).0 k in
        (decimal (unequal_bytes c 48 e) g.0, g.1)

zero_bare : (text cs : List ℕ) → text ≡ 48 ∷ cs → IsBare text
zero_bare text cs same = subst IsBare (sym same) (refl, refl)

based_bare : {ds : List ℕ} {n : ℕ} → IsBasedNumeral ds n → IsBare ds
based_bare (decimal other g) = numeral_bare g
based_bare (zero same) = zero_bare _ [] same
based_bare (hexadecimal {rest = rest} same g) = zero_bare _ (120 ∷ rest) same
based_bare (octal {rest = rest} same g) = zero_bare _ rest same

pub based_integers : (text : List ℕ) (z : ℤ) → (based_integer_of text ≡ Some z) ↔ IsBasedInteger text z
unfolding based_integer_of
based_integers text z = signed based_of (Within64Bits IsBasedNumeral) (λ ds n. (based_found ds n, based_passes ds n)) (λ ds n h. based_bare h.0) text z
