-- Words are one condition at most.
use Rattle.std.proofs.Common.{◌≡◌, ℕ, Bool, true, false, List, [], ◌∷◌, ◌++◌, append_assoc, sym, ◌∙◌, ap, refl}
use Rattle.std.proofs.lemmas.Bool.{false≢true}
use Rattle.yv_text_if_feature.specs.Tokens.{Token}
use Rattle.yv_text_if_feature.specs.Tokens.{Open, Close, Not, And, Or, Name, Wrong}
use Rattle.yv_text_if_feature.specs.IfFeature.{IfFeature, IsIfFeature, IsExpression, IsTerm, IsFactor, term, either, factor, both, name, after_not, inner}
use Rattle.yv_text_if_feature.specs.IfFeature as made

abbrev no_and : List Token → Bool
no_and (And ∷ ts) = false
no_and ts = true

abbrev no_joint : List Token → Bool
no_joint (And ∷ ts) = false
no_joint (Or ∷ ts) = false
no_joint ts = true

weaker : (ts : List Token) → no_joint ts ≡ true → no_and ts ≡ true
weaker [] h = refl
weaker (Open ∷ ts) h = refl
weaker (Close ∷ ts) h = refl
weaker (Not ∷ ts) h = refl
weaker (And ∷ ts) h = h
weaker (Or ∷ ts) h = refl
weaker (Name n ∷ ts) h = refl
weaker (Wrong ∷ ts) h = refl

-- what stands behind the first of two parts
behind : (xs ys : List Token) (t : Token) (ts r : List Token) → ts ≡ xs ++ t ∷ ys → ts ++ r ≡ xs ++ (t ∷ ys ++ r)
behind xs ys t ts r same = ap (λ x. x ++ r) same ∙ append_assoc xs (t ∷ ys) r

within : (xs ts r : List Token) → ts ≡ Open ∷ xs ++ Close ∷ [] → ts ++ r ≡ Open ∷ (xs ++ Close ∷ r)
within xs ts r same = ap (λ x. x ++ r) same ∙ ap (λ x. Open ∷ x) (append_assoc xs (Close ∷ []) r)

abbrev Same : IfFeature → IfFeature → List Token → List Token → Type 0
Same c d r s = (c ≡ d) × (r ≡ s)

tail : (t u : Token) (r s : List Token) → t ∷ r ≡ u ∷ s → r ≡ s
tail t u r s e = cc

no_and_behind : (ts r : List Token) → no_and r ≡ true → r ≡ And ∷ ts → ⊥
no_and_behind ts r h e = false≢true (sym (ap no_and e) ∙ h)

no_or_behind : (ts r : List Token) → no_joint r ≡ true → r ≡ Or ∷ ts → ⊥
no_or_behind ts r h e = false≢true (sym (ap no_joint e) ∙ h)

mutual
  one_factor : {n m : ℕ} {xs ys : List Token} {c d : IfFeature} → IsFactor n xs c → IsFactor m ys d → (r s : List Token) → xs ++ r ≡ ys ++ s → Same c d r s
  one_factor (name {word = v}) (name {word = w}) r s e = (cc, cc)
  one_factor (name {word = v}) (after_not h) r s e = absurd (cc)
  one_factor (name {word = v}) (inner {xs = ys} h same) r s e = let f = e ∙ within ys _ s same in absurd (cc)
  one_factor (after_not h) (name {word = v}) r s e = absurd (cc)
  one_factor (after_not {c = c} h) (after_not {c = d} g) r s e =
      let q = one_factor h g r s (tail _ _ _ _ e) in
      (ap made.Not q.0, q.1)
  one_factor (after_not h) (inner {xs = ys} g same) r s e = let f = e ∙ within ys _ s same in absurd (cc)
  one_factor (inner {xs = xs} h same) (name {word = v}) r s e = let f = sym (within xs _ r same) ∙ e in absurd (cc)
  one_factor (inner {xs = xs} h same) (after_not g) r s e = let f = sym (within xs _ r same) ∙ e in absurd (cc)
  one_factor (inner {xs = xs} h same) (inner {xs = ys} g equal) r s e =
      let f = tail _ _ _ _ (sym (within xs _ r same) ∙ e ∙ within ys _ s equal) in
      let q = one_expression h g (Close ∷ r) (Close ∷ s) f refl refl in
      (q.0, tail _ _ _ _ q.1)

  one_term : {n m : ℕ} {xs ys : List Token} {c d : IfFeature} → IsTerm n xs c → IsTerm m ys d → (r s : List Token) → xs ++ r ≡ ys ++ s → no_and r ≡ true → no_and s ≡ true → Same c d r s
  one_term (factor h) (factor g) r s e p q = one_factor h g r s e
  one_term (factor h) (both {xs = ys} {ys = zs} g g2 same) r s e p q =
      let f = one_factor h g r (And ∷ zs ++ s) (e ∙ behind ys zs And _ s same) in
      absurd (no_and_behind (zs ++ s) r p f.1)
  one_term (both {xs = ys} {ys = zs} g g2 same) (factor h) r s e p q =
      let f = one_factor g h (And ∷ zs ++ r) s (sym (behind ys zs And _ r same) ∙ e) in
      absurd (no_and_behind (zs ++ r) s q (sym f.1))
  one_term (both {xs = xs} {ys = ys} h h2 same) (both {xs = vs} {ys = ws} g g2 equal) r s e p q =
      let f = one_factor h g (And ∷ ys ++ r) (And ∷ ws ++ s) (sym (behind xs ys And _ r same) ∙ e ∙ behind vs ws And _ s equal) in
      let k = one_term h2 g2 r s (tail _ _ _ _ f.1) p q in
      (rw (f.0, k.0) refl, k.1)

  one_expression : {n m : ℕ} {xs ys : List Token} {c d : IfFeature} → IsExpression n xs c → IsExpression m ys d → (r s : List Token) → xs ++ r ≡ ys ++ s → no_joint r ≡ true → no_joint s ≡ true → Same c d r s
  one_expression (term h) (term g) r s e p q = one_term h g r s e (weaker r p) (weaker s q)
  one_expression (term h) (either {xs = ys} {ys = zs} g g2 same) r s e p q =
      let f = one_term h g r (Or ∷ zs ++ s) (e ∙ behind ys zs Or _ s same) (weaker r p) refl in
      absurd (no_or_behind (zs ++ s) r p f.1)
  one_expression (either {xs = ys} {ys = zs} g g2 same) (term h) r s e p q =
      let f = one_term g h (Or ∷ zs ++ r) s (sym (behind ys zs Or _ r same) ∙ e) refl (weaker s q) in
      absurd (no_or_behind (zs ++ r) s q (sym f.1))
  one_expression (either {xs = xs} {ys = ys} h h2 same) (either {xs = vs} {ys = ws} g g2 equal) r s e p q =
      let f = one_term h g (Or ∷ ys ++ r) (Or ∷ ws ++ s) (sym (behind xs ys Or _ r same) ∙ e ∙ behind vs ws Or _ s equal) refl refl in
      let k = one_expression h2 g2 r s (tail _ _ _ _ f.1) p q in
      (rw (f.0, k.0) refl, k.1)

pub one_condition : (ts : List Token) (c d : IfFeature) → IsIfFeature ts c → IsIfFeature ts d → c ≡ d
one_condition ts c d h g = (one_expression h g [] [] refl refl refl).0
