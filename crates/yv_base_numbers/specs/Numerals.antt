-- What texts write as numbers, by grammar and place value (RFC 7950, sections 9.2.1 and 9.3.1).
use Rattle.std.specs.Prelude.{◌≡◌, ◌≢◌, ℕ, ◌+◌, ◌*◌, ◌^◌, ◌<◌, ℤ, pos, neg_ℤ, List, [], ◌∷◌, ◌++◌, length, codes}

-- `0` to `9`, or `a` to `f`, small or capital, for ten to fifteen
pub data IsDigit : ℕ → ℕ → Type 0 where
  figure : {c d : ℕ} → d < 10 → c ≡ 48 + d → IsDigit c d
  small : {c d k : ℕ} → k < 6 → c ≡ 97 + k → d ≡ 10 + k → IsDigit c d
  capital : {c d k : ℕ} → k < 6 → c ≡ 65 + k → d ≡ 10 + k → IsDigit c d

-- a digit of a radix means a number below the radix
pub data IsDigitOf (radix : ℕ) : ℕ → ℕ → Type 0 where
  below : {c d : ℕ} → IsDigit c d → d < radix → IsDigitOf radix c d

-- One digit or more, and the number that they write: a digit counts as often as the radix to the
-- power of how many digits come after it.
pub data IsNumeral (radix : ℕ) : List ℕ → ℕ → Type 0 where
  last : {c d : ℕ} → IsDigitOf radix c d → IsNumeral radix (c ∷ []) d
  before : {c d n : ℕ} {cs : List ℕ} → IsDigitOf radix c d → IsNumeral radix cs n
      → IsNumeral radix (c ∷ cs) (d * radix ^ length cs + n)

-- `+`, `-` or nothing comes before what writes a number without sign
pub data HasSign (Writes : List ℕ → ℕ → Type 0) : List ℕ → ℤ → Type 0 where
  none : {text : List ℕ} {n : ℕ} → Writes text n → HasSign Writes text (pos n)
  plus : {text rest : List ℕ} {n : ℕ} → text ≡ codes "+" ++ rest → Writes rest n
      → HasSign Writes text (pos n)
  minus : {text rest : List ℕ} {n : ℕ} → text ≡ codes "-" ++ rest → Writes rest n
      → HasSign Writes text (neg_ℤ (pos n))

-- numbers without their sign have at most 64 bits: no type has others
abbrev pub Within64Bits : (List ℕ → ℕ → Type 0) → List ℕ → ℕ → Type 0
Within64Bits Writes text n = Writes text n × (n < 2 ^ 64)

-- a whole number: a sign, or none, and a decimal numeral
abbrev pub IsInteger : List ℕ → ℤ → Type 0
IsInteger = HasSign (Within64Bits (IsNumeral 10))

-- In a default's text a numeral is decimal and doesn't begin with `0`, or it is `0` alone, `0x` and
-- a hexadecimal numeral, or `0` and an octal one.
pub data IsBasedNumeral : List ℕ → ℕ → Type 0 where
  decimal : {c n : ℕ} {cs : List ℕ} → c ≢ 48 → IsNumeral 10 (c ∷ cs) n → IsBasedNumeral (c ∷ cs) n
  zero : {text : List ℕ} → text ≡ codes "0" → IsBasedNumeral text 0
  hexadecimal : {text rest : List ℕ} {n : ℕ} → text ≡ codes "0x" ++ rest → IsNumeral 16 rest n
      → IsBasedNumeral text n
  octal : {text rest : List ℕ} {n : ℕ} → text ≡ codes "0" ++ rest → IsNumeral 8 rest n
      → IsBasedNumeral text n

-- the whole number of a default's text: a sign, or none, and such a numeral
abbrev pub IsBasedInteger : List ℕ → ℤ → Type 0
IsBasedInteger = HasSign (Within64Bits IsBasedNumeral)

-- A decimal times ten to the power of `places`, where that is a whole number m, so that only zeros
-- come after the places. The decimal is n; or n and, for k digits after the point, f parts of 10 ^
-- k.
pub data IsScaled (places : ℕ) : List ℕ → ℕ → Type 0 where
  whole : {text : List ℕ} {m n : ℕ} → IsNumeral 10 text n → m ≡ n * 10 ^ places
      → IsScaled places text m
  with_point : {text above below : List ℕ} {m n f : ℕ} → text ≡ above ++ codes "." ++ below
      → IsNumeral 10 above n → IsNumeral 10 below f
      → m * 10 ^ length below ≡ (n * 10 ^ length below + f) * 10 ^ places → IsScaled places text m

-- the scaled number of a decimal text: a sign, or none, digits, and perhaps a point and digits
abbrev pub IsDecimal : ℕ → List ℕ → ℤ → Type 0
IsDecimal places = HasSign (Within64Bits (IsScaled places))
