-- The number that digits write.
use Rattle.std.proofs.Common.{◌≡◌, ℕ, ◌+◌, ◌-◌, ◌*◌, ◌<◌, ◌≤◌, Bool, true, false, not, ◌&&◌, List, [], ◌∷◌, ◌++◌, length, take, drop, get_or, nat_le, sym, ◌∙◌, ap, subst, refl, arith}
use Rattle.std.specs.List.{list_all}
use Rattle.std.proofs.lemmas.List.{take_more, take-append-drop}
use Rattle.std.proofs.lemmas.Bool.{lt-leb}
use Rattle.yv_text_if_feature.specs.Bytes.{is_digit}
use Rattle.yv_text_grammar.specs.Texts.{decimal_after, is_number}
use Rattle.yv_text_if_feature.specs.Tokens.{is_empty}

-- what is written by digits, and more of them
joined : (n : ℕ) (xs ys : List ℕ) → decimal_after n (xs ++ ys) ≡ decimal_after (decimal_after n xs) ys
joined n [] ys = refl
joined n (x ∷ xs) ys = joined (10 * n + (x - 48)) xs ys

grows : (n : ℕ) (xs : List ℕ) → n ≤ decimal_after n xs
grows n [] = omega arith
grows n (x ∷ xs) = omega (arith, grows (10 * n + (x - 48)) xs)

pub value_more : (xs : List ℕ) (i d : ℕ) → i < length xs → 10 * decimal_after 0 (take i xs) + (get_or xs i d - 48) ≡ decimal_after 0 (take (i + 1) xs)
value_more xs i d h = sym (ap (decimal_after 0) (take_more xs i d h) ∙ joined 0 (take i xs) (get_or xs i d ∷ []))

pub value_front : (xs : List ℕ) (i : ℕ) → decimal_after 0 (take i xs) ≤ decimal_after 0 xs
value_front xs i = subst (λ ys. decimal_after 0 (take i xs) ≤ decimal_after 0 ys) (take-append-drop i xs) (rw joined (grows (decimal_after 0 (take i xs)) (drop i xs)))

none_true : (a b c : Bool) → false ≡ (a && (b && (c && false)))
none_true false b c = refl
none_true true false c = refl
none_true true true false = refl
none_true true true true = refl

above : (m n : ℕ) → n < m → nat_le m n ≡ false
above m n h = lt-leb m n h

pub too_high : (low high : ℕ) (text : List ℕ) → high < decimal_after 0 text → false ≡ is_number low high text
unfolding is_number
too_high low high text h = rw (above (decimal_after 0 text) high h) (none_true (not (is_empty text)) (list_all is_digit text) (nat_le low (decimal_after 0 text)))
