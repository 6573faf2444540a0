-- A sign is read as it is written.
use Rattle.std.proofs.Common.{◌≡◌, ℕ, ◌==◌, Bool, true, false, cond, List, [], ◌∷◌, drop, Option, Some, None, refl, sym, ap, subst, arith}
use Rattle.std.specs.Prelude.{◌↔◌, ℤ, pos, neg_ℤ, option_map}
use Rattle.std.specs.Str.Parse.{without_leading_sign, without_leading_plus, starts_with_minus}
use Rattle.std.proofs.lemmas.Bool.Decides.{nat_tests}
use Rattle.yv_base_numbers.specs.Numbers.{with_sign}
use Rattle.yv_base_numbers.specs.Numerals.{HasSign, none, plus, minus}

mapped : (g : ℕ → ℤ) (o : Option ℕ) (z : ℤ) → option_map g o ≡ Some z → (n : ℕ) × (o ≡ Some n) × (g n ≡ z)
mapped g None z h = absurd (cc)
mapped g (Some n) z h = (n, refl, cc)

pub equal_bytes : (m n : ℕ) → (m == n) ≡ true → m ≡ n
equal_bytes m n h = grind (arith, nat_tests)

pub other_byte : (m n : ℕ) → (m ≡ n → ⊥) → (m == n) ≡ false
other_byte m n h = grind (arith, nat_tests)

-- no sign stands at the front
abbrev pub IsBare : List ℕ → Type 0
IsBare text = (starts_with_minus text ≡ false) × (without_leading_plus text ≡ text)

pub bare : (c : ℕ) (cs : List ℕ) → (c ≡ 43 → ⊥) → (c ≡ 45 → ⊥) → IsBare (c ∷ cs)
bare c cs p m = (other_byte c 45 m, ap (λ t. drop (cond t 1 0) (c ∷ cs)) (other_byte c 43 p))

module _ (f : List ℕ → Option ℕ) (Writes : List ℕ → ℕ → Type 0) (law : (ds : List ℕ) (n : ℕ) → (f ds ≡ Some n) ↔ Writes ds n) (unsigned : (ds : List ℕ) (n : ℕ) → Writes ds n → IsBare ds) where
  abbrev read : List ℕ → Option ℤ
  read text = option_map (with_sign (starts_with_minus text)) (f (without_leading_sign text))

  -- behind a plus, or where none stands
  behind_plus : (text : List ℕ) (n : ℕ) → f (without_leading_plus text) ≡ Some n → HasSign Writes text (pos n)
  behind_plus [] n h = none ((law _ n).0 h)
  behind_plus (c ∷ cs) n h = at (c == 43) refl h
    where
      at : (t : Bool) → (c == 43) ≡ t → f (drop (cond t 1 0) (c ∷ cs)) ≡ Some n → HasSign Writes (c ∷ cs) (pos n)
      at true e k = plus (ap (λ b. b ∷ cs) (equal_bytes c 43 e)) ((law _ n).0 k)
      at false e k = none ((law _ n).0 k)

  behind_minus : (text : List ℕ) (n : ℕ) → starts_with_minus text ≡ true → f (drop 1 text) ≡ Some n → HasSign Writes text (neg_ℤ (pos n))
  behind_minus [] n e h = absurd (cc)
  behind_minus (c ∷ cs) n e h = minus (ap (λ b. b ∷ cs) (equal_bytes c 45 e)) ((law _ n).0 h)

  found : (text : List ℕ) (z : ℤ) (t : Bool) → starts_with_minus text ≡ t → option_map (with_sign t) (f (cond t (drop 1 text) (without_leading_plus text))) ≡ Some z → HasSign Writes text z
  found text z true e h =
      let p = mapped (with_sign true) _ z h in
      subst (λ y. HasSign Writes text y) p.2 (behind_minus text p.0 e p.1)
  found text z false e h =
      let p = mapped (with_sign false) _ z h in
      subst (λ y. HasSign Writes text y) p.2 (behind_plus text p.0 p.1)

  passes : (text : List ℕ) (z : ℤ) → HasSign Writes text z → read text ≡ Some z
  passes text z (none {n = n} h) =
      let b = unsigned text n h in
      rw (b.0, b.1, (law text n).1 h) refl
  passes text z (plus {rest = rest} {n = n} same h) = subst (λ s. read s ≡ Some (pos n)) (sym same) (ap (option_map pos) ((law rest n).1 h))
  passes text z (minus {rest = rest} {n = n} same h) = subst (λ s. read s ≡ Some (neg_ℤ (pos n))) (sym same) (ap (option_map (λ m. neg_ℤ (pos m))) ((law rest n).1 h))

  pub signed : (text : List ℕ) (z : ℤ) → (read text ≡ Some z) ↔ HasSign Writes text z
  signed text z = (λ h. found text z (starts_with_minus text) refl h, λ h. passes text z h)
