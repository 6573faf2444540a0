-- Values that are keys alone, and those of them that are the same.
use Rattle.std.proofs.Common.{◌≡◌, ℕ, ◌≤◌, ◌⊎◌, Bool, true, false, ◌||◌, List, [], ◌∷◌, ◌++◌, length, Option, Some, None, is_some, Ok, refl, sym, ap, subst, ◌∙◌, inl, inr, arith}
use Rattle.std.specs.Bool.{Decides}
use Rattle.std.proofs.lemmas.Bool.Decides.{same_from_decides}
use Rattle.yv_values.specs.InnerDefaults.{KeepsAlone}
use Rattle.yv_values.specs.Pairs.{Pair, IsLeast, AddsIfNone, IsAlone}
use Rattle.yv_values.specs.Same.{same_value, is_among, has_same}
use Rattle.yv_values.specs.Values.{Val}
use Rattle.yv_values.proofs.Same.{along}
use Rattle.yv_values.proofs.SameValues.{same_value-Decides}

either : {P Q : Type 0} (a b : Bool) → Decides a P → Decides b Q → Decides (a || b) (P ⊎ Q)
either true b d e = (λ t. inl (d.0 refl), λ h. refl)
either false b d e = (λ t. inr (e.0 t), λ h. elim h [ inl p ↦ absurd (let x = d.1 p in cc) | inr q ↦ e.1 q ])

not_true : (b : Bool) → (b ≡ true → ⊥) → b ≡ false
not_true true h = absurd (h refl)
not_true false h = refl

-- a value is among these where it is one of them alone
pub among_alone : (v : Val) (vs : List Val) → Decides (is_among v vs) (IsAlone (v ∷ []) vs)
among_alone v [] = (λ t. absurd (cc), λ h. elim h [ ])
among_alone v (w ∷ ws) =
    either (same_value v w) (is_among v ws) (along (same_value v w) (same_value-Decides v w) (λ e. ap (λ x. x ∷ []) e) (λ e. cc)) (among_alone v ws)

same_swapped : (v w : Val) → same_value v w ≡ same_value w v
same_swapped v w = same_from_decides (same_value v w) (same_value w v) (same_value-Decides v w) (along (same_value w v) (same_value-Decides w v) (λ e. sym e) (λ e. sym e))

or_none : (a : Bool) → (a || false) ≡ a
or_none true = refl
or_none false = refl

or_ahead : (a b c : Bool) → ((a || b) || c) ≡ (a || (b || c))
or_ahead true b c = refl
or_ahead false b c = refl

four : (a s h b : Bool) → ((a || s) || (h || b)) ≡ ((a || h) || (s || b))
four true s h b = refl
four false true true b = refl
four false true false b = refl
four false false h b = refl

among_more : (y : Val) (ys : List Val) (v : Val) → is_among y (ys ++ v ∷ []) ≡ (is_among y ys || same_value y v)
among_more y [] v = or_none (same_value y v)
among_more y (x ∷ xs) v = ap (λ b. same_value y x || b) (among_more y xs v) ∙ sym (or_ahead (same_value y x) (is_among y xs) (same_value y v))

-- one value more
pub same_more : (vs : List Val) (v : Val) → has_same (vs ++ v ∷ []) ≡ (has_same vs || is_among v vs)
same_more [] v = refl
same_more (y ∷ ys) v =
    ap (λ b. b || has_same (ys ++ v ∷ [])) (among_more y ys v)
    ∙ ap (λ b. (is_among y ys || same_value y v) || b) (same_more ys v)
    ∙ four (is_among y ys) (same_value y v) (has_same ys) (is_among v ys)
    ∙ ap (λ b. (is_among y ys || has_same ys) || (b || is_among v ys)) (same_swapped y v)

pub same_of_few : (vs : List Val) → length vs ≤ 1 → has_same vs ≡ false
same_of_few [] h = refl
same_of_few (x ∷ []) h = refl
same_of_few (x ∷ y ∷ ys) h = absurd (omega (arith, h))

alone_split : (key : List Val) (vs : List Val) (v : Val) → IsAlone key (vs ++ v ∷ []) → IsAlone key vs ⊎ (key ≡ v ∷ [])
alone_split key [] v (inl e) = inr e
alone_split key [] v (inr h) = inl h
alone_split key (x ∷ xs) v (inl e) = inl (inl e)
alone_split key (x ∷ xs) v (inr h) = elim (alone_split key xs v h) [ inl a ↦ inl (inr a) | inr b ↦ inr b ]

alone_join : (key : List Val) (vs : List Val) (v : Val) → IsAlone key vs ⊎ (key ≡ v ∷ []) → IsAlone key (vs ++ v ∷ [])
alone_join key [] v (inl h) = elim h [ ]
alone_join key [] v (inr e) = inl e
alone_join key (x ∷ xs) v (inl (inl e)) = inl e
alone_join key (x ∷ xs) v (inl (inr h)) = inr (alone_join key xs v (inl h))
alone_join key (x ∷ xs) v (inr e) = inr (alone_join key xs v (inr e))

module _ (pairs : List Pair) (vs : List Val) (kept : KeepsAlone pairs vs) where
  -- a place is found where the value is one of these
  pub found_among : (v : Val) (o : Option ℕ) → IsLeast pairs (v ∷ []) o → is_some o ≡ is_among v vs
  found_among v None least = sym (not_true (is_among v vs) (λ t. least 0 ((kept (v ∷ []) 0).1 ((among_alone v vs).0 t, refl))))
  found_among v (Some p) least = sym ((among_alone v vs).1 ((kept (v ∷ []) p).0 least.0).0)

  -- and it is kept then
  pub kept_more : (new : List Pair) (v : Val) (o : Option ℕ) → IsLeast pairs (v ∷ []) o → AddsIfNone (Ok o) pairs new (v ∷ []) 0 → KeepsAlone new (vs ++ v ∷ [])
  kept_more new v None least adds = λ key p. (
    λ h. elim ((adds key p).0 h) [
      | inl k ↦ (alone_join key vs v (inl ((kept key p).0 k).0), ((kept key p).0 k).1)
      | inr e ↦ (alone_join key vs v (inr e.0), e.1)
    ],
    λ h. elim (alone_split key vs v h.0) [
      | inl a ↦ (adds key p).1 (inl ((kept key p).1 (a, h.1)))
      | inr e ↦ (adds key p).1 (inr (e, h.1))
    ],
  )
  kept_more new v (Some q) least adds = subst (λ (ps : List Pair). KeepsAlone ps (vs ++ v ∷ [])) (sym adds) (λ key p. (
    λ k. (alone_join key vs v (inl ((kept key p).0 k).0), ((kept key p).0 k).1),
    λ h. elim (alone_split key vs v h.0) [
      | inl a ↦ (kept key p).1 (a, h.1)
      | inr e ↦ (kept key p).1 (subst (λ (k : List Val). IsAlone k vs) (sym e) ((kept (v ∷ []) q).0 least.0).0, h.1)
    ],
  ))
