-- Numbers of 32 bits in texts.
use Rattle.std.proofs.Common.{◌≡◌, ℕ, ◌<◌, ◌≤◌, ◌&&◌, Bool, true, false, not, List, length, get_or, nat_eq, nat_le, Some, None, ap, refl, arith}
use Rattle.std.specs.List.{list_all}
use Rattle.std.proofs.lemmas.Bool.{le-leb}
use Rattle.std.proofs.lemmas.List.Folds.{list_all_at}
use Rattle.yv_text_if_feature.specs.Bytes.{is_digit}
use Rattle.yv_text_grammar.specs.Texts.{is_number, decimal_after}
use Rattle.yv_lint.specs.Arguments.{number_of}

pub no_number : (text : List ℕ) → is_number 0 4294967295 text ≡ false → None ≡ number_of text
no_number text e = rw e refl

pub no_digits : (text : List ℕ) → nat_eq (length text) 0 ≡ true → is_number 0 4294967295 text ≡ false
unfolding is_number
no_digits text e = rw e refl

second_fails : (a b c : Bool) → b ≡ false → (a && (b && c)) ≡ false
second_fails true b c e = rw e refl
second_fails false b c e = refl

pub no_digit : (text : List ℕ) (i : ℕ) → i < length text → is_digit (get_or text i 0) ≡ false → is_number 0 4294967295 text ≡ false
unfolding is_number
no_digit text i lt e = second_fails (not (nat_eq (length text) 0)) (list_all is_digit text) (nat_le 0 (decimal_after 0 text) && nat_le (decimal_after 0 text) 4294967295) (list_all_at is_digit text i 0 lt e)

pub number_is : (text : List ℕ) (n : ℕ) → nat_eq (length text) 0 ≡ false → list_all is_digit text ≡ true → n ≡ decimal_after 0 text → n ≤ 4294967295 → Some n ≡ number_of text
unfolding is_number
number_is text n some digits value below =
    let least : nat_le 0 (decimal_after 0 text) ≡ true = le-leb 0 (decimal_after 0 text) (omega arith) in
    let most : nat_le (decimal_after 0 text) 4294967295 ≡ true = le-leb (decimal_after 0 text) 4294967295 (omega (arith, value)) in
    rw (some, digits, least, most) (ap (λ (m : ℕ). Some m) value)
