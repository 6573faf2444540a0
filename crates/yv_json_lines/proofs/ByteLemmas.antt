-- What a byte is written as in a JSON string.
use Rattle.std.proofs.Common.{◌≡◌, ◌∙◌, ◌<◌, ◌≤◌, ◌+◌, ◌-◌, ◌/◌, ◌%◌, ℕ, Bool, true, false, cond, [], ◌∷◌, refl, sym, ap, ap₂, nat_lt, arith}
use Rattle.std.proofs.lemmas.Bool.{cond-true, cond-false, lt-ltb, le-ltb}
use Rattle.std.specs.Char.{digit_char}
use Rattle.json.specs.Print.{escape_byte, escape_letter}
use Rattle.yv_json_lines.specs.InnerPieces.{digit_from}

-- a short escape
pub short : (b letter : ℕ) → letter ≡ escape_letter b → 0 < letter → 92 ∷ letter ∷ [] ≡ escape_byte b
unfolding escape_byte
short b letter e h = sym (cond-true _ _ _ (ap (λ (n : ℕ). nat_lt 0 n) (sym e) ∙ lt-ltb 0 letter h) ∙ ap (λ (n : ℕ). 92 ∷ n ∷ []) (sym e))

lower_by : (n : ℕ) (is_small : Bool) → cond is_small (48 + n) (97 + n - 10) ≡ cond is_small (48 + n) (87 + n)
lower_by n true = refl
lower_by n false = omega arith

-- a digit in lower case
lower : (n : ℕ) → digit_from 97 n ≡ digit_char n
lower n = lower_by n (nat_lt n 10)

-- another control character
pub control : (b high low letter : ℕ) → letter ≡ escape_letter b → letter ≤ 0 → b < 32 → high ≡ digit_from 97 (b / 16) → low ≡ digit_from 97 (b % 16)
    → 92 ∷ 117 ∷ 48 ∷ 48 ∷ high ∷ low ∷ [] ≡ escape_byte b
unfolding escape_byte
control b high low letter e h small is_high is_low =
    ap₂ (λ (x y : ℕ). 92 ∷ 117 ∷ 48 ∷ 48 ∷ x ∷ y ∷ []) (is_high ∙ lower (b / 16)) (is_low ∙ lower (b % 16))
    ∙ sym (cond-false _ _ _ (ap (λ (n : ℕ). nat_lt 0 n) (sym e) ∙ le-ltb 0 letter h) ∙ cond-true _ _ _ (lt-ltb b 32 small))

-- any other
pub plain : (b letter : ℕ) → letter ≡ escape_letter b → letter ≤ 0 → 32 ≤ b → b ∷ [] ≡ escape_byte b
unfolding escape_byte
plain b letter e h large =
    sym (cond-false _ _ _ (ap (λ (n : ℕ). nat_lt 0 n) (sym e) ∙ le-ltb 0 letter h) ∙ cond-false _ _ _ (le-ltb b 32 large))
