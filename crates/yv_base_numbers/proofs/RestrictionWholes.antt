-- Numbers as texts state them, and as the program holds them.
use Rattle.std.proofs.Common.{◌≡◌, ℕ, ◌≤◌, ◌^◌, ℤ, pos, Bool, true, false, cond, List, Option, Some, None, inl, inr, refl, sym, ◌∙◌, ap, subst, arith}
use Rattle.std.specs.Prelude.{◌↔◌, IfNone, IfSome, neg_ℤ}
use Rattle.std.specs.Ordering.{int_eq}
use Rattle.std.proofs.lemmas.Bool.{both_ways, cases_lt}
use Rattle.std.proofs.lemmas.Bool.Decides.{Decides-int_eq}
use Rattle.std.proofs.lemmas.Int.{ints}
use Rattle.yv_base_numbers.specs.Numbers.{integer_of, is_numeral, value_after}
use Rattle.yv_base_numbers.specs.Numerals.{HasSign, none, plus, minus, IsNumeral, IsInteger}
use Rattle.yv_base_numbers.proofs.Numerals.{if_some, numeral_found, numeral_passes, value_read}
use Rattle.yv_base_numbers.proofs.Signs.{signed}
use Rattle.yv_base_numbers.proofs.Wholes.{integers, numeral_bare}
use Rattle.yv_base_numbers.specs.Entries.{decimal_number, number_or_none, whole_number}
use Rattle.yv_base_numbers.specs.InnerStatedNumbers.{fits, number_in_range}
use Rattle.yv_base_numbers.specs.Numberings.{agrees, is_number, number_from}
use Rattle.yv_base_numbers.specs.declared.numbering.NumberKind.{NumberKind}
use Rattle.yv_base_numbers.specs.declared.numbering.NumberKind.TheVariants.{Enumeration, Bits}

-- ### by grammar

numerals : (ds : List ℕ) (n : ℕ) → (decimal_number ds ≡ Some n) ↔ IsNumeral 10 ds n
numerals ds n = (to, from)
  where
    same : (m k : ℕ) → Some m ≡ Some k → m ≡ k
    same m k h = cc

    to : decimal_number ds ≡ Some n → IsNumeral 10 ds n
    to h =
        let p = if_some (is_numeral 10 ds) (Some (value_after 10 0 ds)) n h in
        subst (λ m. IsNumeral 10 ds m) (same (value_after 10 0 ds) n p.1) (numeral_found 10 ds (omega arith) p.0)

    from : IsNumeral 10 ds n → decimal_number ds ≡ Some n
    from h = rw (numeral_passes h, value_read h) refl

pub written : (text : List ℕ) (z : ℤ) → (whole_number text ≡ Some z) ↔ HasSign (IsNumeral 10) text z
written text z = signed decimal_number (IsNumeral 10) numerals (λ ds n h. numeral_bare h) text z

-- ### of at most 64 bits

unlimited : (text : List ℕ) (z : ℤ) → IsInteger text z → HasSign (IsNumeral 10) text z
unlimited text z (none h) = none h.0
unlimited text z (plus same h) = plus same h.0
unlimited text z (minus same h) = minus same h.0

-- what is read is the number
pub number_read : (text : List ℕ) (z : ℤ) → Some z ≡ integer_of text → whole_number text ≡ Some z
number_read text z h = (written text z).1 (unlimited text z ((integers text z).0 (sym h)))

not_none : {X : Type 0} (o : Option X) (x : X) → None ≡ o → o ≡ Some x → ⊥
not_none o x h g = let e : None ≡ Some x = h ∙ g in cc

far_above : (n : ℕ) → 2 ^ 64 ≤ n → fits (pos n) ≡ false
far_above n h = grind (arith, ints)

far_below : (n : ℕ) → 2 ^ 64 ≤ n → fits (neg_ℤ (pos n)) ≡ false
far_below n h = grind (arith, ints)

-- a number that isn't read is far
pub number_unread : (text : List ℕ) (z : ℤ) → None ≡ integer_of text → whole_number text ≡ Some z → fits z ≡ false
number_unread text z h g = at z ((written text z).0 g)
  where
    limited : (y : ℤ) → IsInteger text y → ⊥
    limited y k = not_none (integer_of text) y h ((integers text y).1 k)

    at : (y : ℤ) → HasSign (IsNumeral 10) text y → fits y ≡ false
    at _ (none {n = n} k) = elim (cases_lt n (2 ^ 64)) [
      | inl l ↦ absurd (limited (pos n) (none (k, l)))
      | inr u ↦ far_above n u
    ]
    at _ (plus {n = n} same k) = elim (cases_lt n (2 ^ 64)) [
      | inl l ↦ absurd (limited (pos n) (plus same (k, l)))
      | inr u ↦ far_above n u
    ]
    at _ (minus {n = n} same k) = elim (cases_lt n (2 ^ 64)) [
      | inl l ↦ absurd (limited (neg_ℤ (pos n)) (minus same (k, l)))
      | inr u ↦ far_below n u
    ]

-- ### as it is held

same_number : (w : Option ℤ) (z n : ℤ) → w ≡ Some z → w ≡ Some n → z ≡ n
same_number w z n h g = let e : Some z ≡ Some n = sym h ∙ g in cc

pub some_held : (w o : Option ℤ) (z : ℤ) → o ≡ number_in_range z → w ≡ Some z → IfSome o (λ n. w ≡ Some n)
some_held w o z e h = subst (λ x. IfSome x (λ n. w ≡ Some n)) (sym e) (at (fits z))
  where
    at : (b : Bool) → IfSome (cond b (Some z) None) (λ n. w ≡ Some n)
    at true = h
    at false = tt

pub none_held : (w o : Option ℤ) (z : ℤ) → o ≡ number_in_range z → w ≡ Some z → IfNone o ((n : ℤ) → w ≡ Some n → fits n ≡ false)
none_held w o z e h = subst (λ x. IfNone x ((n : ℤ) → w ≡ Some n → fits n ≡ false)) (sym e) (at (fits z) refl)
  where
    at : (b : Bool) → fits z ≡ b → IfNone (cond b (Some z) None) ((n : ℤ) → w ≡ Some n → fits n ≡ false)
    at true f = tt
    at false f = λ n g. subst (λ m. fits m ≡ false) (same_number w z n h g) f

-- a far number is none of this size
pub other_number : (w : Option ℤ) (k : ℤ) → fits k ≡ true → ((n : ℤ) → w ≡ Some n → fits n ≡ false) → false ≡ agrees (number_or_none w) (Some k)
other_number None k e h = refl
other_number (Some n) k e h = apart (int_eq n k) refl
  where
    apart : (b : Bool) → int_eq n k ≡ b → false ≡ b
    apart false g = refl
    apart true g = absurd (both_ways (fits n) (h n refl) (ap fits ((Decides-int_eq n k).0 g) ∙ e))

-- neither kind has a far number
pub far_number : (kind : NumberKind) (n : ℤ) → fits n ≡ false → is_number kind n ≡ false
far_number Enumeration n h = grind (arith, ints)
far_number Bits n h = grind (arith, ints)

pub far_stated : (w r : Option ℤ) (after : ℤ) → IfNone r ((n : ℤ) → w ≡ Some n → fits n ≡ false) → IfNone r ((kind : NumberKind) (n : ℤ) → number_from after (number_or_none w) ≡ Some n → is_number kind n ≡ false)
far_stated w (Some m) after h = tt
far_stated w None after h = λ kind n g. far_number kind n (at w h g)
  where
    at : {n : ℤ} (v : Option ℤ) → ((m : ℤ) → v ≡ Some m → fits m ≡ false) → number_from after (number_or_none v) ≡ Some n → fits n ≡ false
    at None f g = absurd (cc)
    at {n} (Some m) f g = f n g
