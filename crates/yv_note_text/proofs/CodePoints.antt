use Rattle.std.proofs.Common.{◌≡◌, ◌<◌, ◌≤◌, ◌/◌, ◌%◌, ◌++◌, ◌∷◌, ◌∙◌, [], List, ℕ, ap, sym, refl, arith, append_assoc, inl, inr, nat_lt, cond}
use Rattle.std.proofs.lemmas.Bool.{cases_lt, cond_below, cond_above}
use Rattle.yv_note_text.specs.CodePoints.{hex_digit, last_digits, digit_count}

-- the digits in the order in which they are added
pub four : (n : ℕ) → last_digits 4 n ≡ last_digits 2 (n / 256) ++ last_digits 2 n
four n =
    let e : n / 16 / 16 ≡ n / 256 = omega arith in
    ap (λ m. hex_digit (m / 16 % 16) ∷ hex_digit (m % 16) ∷ hex_digit (n / 16 % 16) ∷ hex_digit (n % 16) ∷ []) e

pub five : (n : ℕ) → last_digits 5 n ≡ last_digits 1 (n / 65536) ++ (last_digits 2 (n / 256) ++ last_digits 2 n)
five n =
    let e : n / 16 / 16 ≡ n / 256 = omega arith in
    let f : n / 256 / 16 / 16 ≡ n / 65536 = omega arith in
    ap (λ m. hex_digit (m / 16 / 16 % 16) ∷ hex_digit (m / 16 % 16) ∷ hex_digit (m % 16) ∷ hex_digit (n / 16 % 16) ∷ hex_digit (n % 16) ∷ []) e
    ∙ ap (λ m. hex_digit (m % 16) ∷ hex_digit (n / 256 / 16 % 16) ∷ hex_digit (n / 256 % 16) ∷ hex_digit (n / 16 % 16) ∷ hex_digit (n % 16) ∷ []) f

pub six : (n : ℕ) → last_digits 6 n ≡ last_digits 2 (n / 65536) ++ (last_digits 2 (n / 256) ++ last_digits 2 n)
six n =
    let e : n / 16 / 16 ≡ n / 256 = omega arith in
    let f : n / 256 / 16 / 16 ≡ n / 65536 = omega arith in
    ap (λ m. hex_digit (m / 16 / 16 / 16 % 16) ∷ hex_digit (m / 16 / 16 % 16) ∷ hex_digit (m / 16 % 16) ∷ hex_digit (m % 16) ∷ hex_digit (n / 16 % 16) ∷ hex_digit (n % 16) ∷ []) e
    ∙ ap (λ m. hex_digit (m / 16 % 16) ∷ hex_digit (m % 16) ∷ hex_digit (n / 256 / 16 % 16) ∷ hex_digit (n / 256 % 16) ∷ hex_digit (n / 16 % 16) ∷ hex_digit (n % 16) ∷ []) f

-- how many digits there are
pub is_four : (n : ℕ) → n < 65536 → digit_count n ≡ 4
is_four n low = sym (cond_below n 65536 4 (cond (nat_lt n 1048576) 5 6) low)

pub is_five : (n : ℕ) → 65536 ≤ n → n < 1048576 → digit_count n ≡ 5
is_five n high low = sym (cond_above n 65536 4 (cond (nat_lt n 1048576) 5 6) 5 high (cond_below n 1048576 5 6 low))

pub is_six : (n : ℕ) → 1048576 ≤ n → digit_count n ≡ 6
is_six n high =
    let also : 65536 ≤ n = omega arith in
    sym (cond_above n 65536 4 (cond (nat_lt n 1048576) 5 6) 6 also (cond_above n 1048576 5 6 6 high refl))

-- a text that grew by the digits before the last four, and twice by two of those
pub record Grows (n : ℕ) (old one two three : List ℕ) : Type 0 where
  pub none : n < 65536 → one ≡ old
  pub first : 65536 ≤ n → n < 1048576 → one ≡ old ++ last_digits 1 (n / 65536)
  pub second : 1048576 ≤ n → one ≡ old ++ last_digits 2 (n / 65536)
  pub third : two ≡ one ++ last_digits 2 (n / 256)
  pub last : three ≡ two ++ last_digits 2 n

joined : (n : ℕ) (old one two three high : List ℕ) → Grows n old one two three → one ≡ old ++ high
    → three ≡ old ++ (high ++ (last_digits 2 (n / 256) ++ last_digits 2 n))
joined n old one two three high g e =
    g.last ∙ ap (λ t. t ++ last_digits 2 n) (g.third ∙ ap (λ t. t ++ last_digits 2 (n / 256)) e)
    ∙ append_assoc (old ++ high) (last_digits 2 (n / 256)) (last_digits 2 n)
    ∙ append_assoc old high (last_digits 2 (n / 256) ++ last_digits 2 n)

joined_four : (n : ℕ) (old one two three : List ℕ) → Grows n old one two three → one ≡ old
    → three ≡ old ++ (last_digits 2 (n / 256) ++ last_digits 2 n)
joined_four n old one two three g e =
    g.last ∙ ap (λ t. t ++ last_digits 2 n) (g.third ∙ ap (λ t. t ++ last_digits 2 (n / 256)) e)
    ∙ append_assoc old (last_digits 2 (n / 256)) (last_digits 2 n)

as_four : (n : ℕ) (old one two three : List ℕ) → Grows n old one two three → n < 65536
    → three ≡ old ++ last_digits (digit_count n) n
as_four n old one two three g low =
    joined_four n old one two three g (g.none low)
    ∙ ap (λ t. old ++ t) (sym (ap (λ count. last_digits count n) (is_four n low) ∙ four n))

as_five : (n : ℕ) (old one two three : List ℕ) → Grows n old one two three → 65536 ≤ n → n < 1048576
    → three ≡ old ++ last_digits (digit_count n) n
as_five n old one two three g high low =
    joined n old one two three (last_digits 1 (n / 65536)) g (g.first high low)
    ∙ ap (λ t. old ++ t) (sym (ap (λ count. last_digits count n) (is_five n high low) ∙ five n))

as_six : (n : ℕ) (old one two three : List ℕ) → Grows n old one two three → 1048576 ≤ n
    → three ≡ old ++ last_digits (digit_count n) n
as_six n old one two three g high =
    joined n old one two three (last_digits 2 (n / 65536)) g (g.second high)
    ∙ ap (λ t. old ++ t) (sym (ap (λ count. last_digits count n) (is_six n high) ∙ six n))

-- it grew by the digits of the number
pub grows : (n : ℕ) (old one two three : List ℕ) → Grows n old one two three
    → three ≡ old ++ last_digits (digit_count n) n
grows n old one two three g =
    elim (cases_lt n 65536) [
      | inl low ↦ as_four n old one two three g low
      | inr high ↦ elim (cases_lt n 1048576) [
        | inl low ↦ as_five n old one two three g high low
        | inr higher ↦ as_six n old one two three g higher
      ]
    ]
