-- Where the last line of a text begins.
use Rattle.std.proofs.Common.{◌≡◌, ◌∙◌, ◌+◌, ◌-◌, ◌<◌, ◌≤◌, ◌==◌, ℕ, not, Bool, true, false, List, length, get_or, refl, ap, subst, arith}
use Rattle.std.specs.declared.option.Option.{Option}
use Rattle.std.specs.declared.option.Option.TheVariants.{None, Some}
use Rattle.std.specs.List.{suffix_len}
use Rattle.std.proofs.lemmas.List.Sums.{suffix_len_is}
use Rattle.memchr.specs.Find.{IsLastByte, Nowhere, Passes, is_byte}
use Rattle.yv_base_positions.specs.Column.{is_in_line}

-- a byte that isn't a line feed
apart : (b : ℕ) (is : Bool) → (b == 10) ≡ is → (is ≡ true → ⊥) → not is ≡ true
apart b true e h = absurd (h refl)
apart b false e h = refl

pub other : (xs : List ℕ) (n k : ℕ) → Nowhere (Passes (is_byte 10) xs) n (length xs) → n ≤ k → k < length xs → is_in_line (get_or xs k 0) ≡ true
other xs n k h low high = apart (get_or xs k 0) (get_or xs k 0 == 10) refl (h k low high)

pub after_last : (xs : List ℕ) (at : ℕ) (r : Option ℕ) → r ≡ Some at → IsLastByte (is_byte 10) xs r → suffix_len is_in_line xs ≡ length xs - (at + 1)
after_last xs at r is h =
    let P : Option ℕ → Type 0 = λ x. IsLastByte (is_byte 10) xs x in
    let last = subst P is h in
    let same : at + 1 - 1 ≡ at = omega arith in
    suffix_len_is is_in_line xs (at + 1) 0 (let high = last.0.high in omega arith) (λ k low high. other xs (at + 1) k last.0.after low high) (λ l. ap (λ (n : ℕ). is_in_line (get_or xs n 0)) same ∙ ap not last.1)

pub without_feed : (xs : List ℕ) (r : Option ℕ) → r ≡ None → IsLastByte (is_byte 10) xs r → suffix_len is_in_line xs ≡ length xs - 0
without_feed xs r is h =
    let P : Option ℕ → Type 0 = λ x. IsLastByte (is_byte 10) xs x in
    let nowhere = subst P is h in
    suffix_len_is is_in_line xs 0 0 (omega arith) (λ k low high. other xs 0 k nowhere low high) (λ l. absurd (let m : ⊥ = omega arith in m))
