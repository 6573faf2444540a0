-- How least refusals are joined.
use Rattle.std.proofs.Common.{◌≡◌, ℕ, ◌+◌, ◌⊎◌, inl, inr, is_some, ⊎_elim, List, [], ◌∷◌, Bool, true, false, cond, refl, sym, ◌∙◌, ap, subst, arith, Option, Some, None}
use Rattle.std.specs.List.{slice_get}
use Rattle.std.proofs.lemmas.Option.{same_Some}
use Rattle.std.proofs.lemmas.Bool.{cases_eq, false≢true}
use Rattle.yv_text_statement.specs.declared.refusal.Refusal.{Refusal}
use Rattle.yv_text_statement.specs.Order.{keys_of, IsUpToBy, IsUpTo, IsLeast, IsLesser, Stands, Among}

up_to_by_trans : (xs ys zs : List ℕ) → IsUpToBy xs ys → IsUpToBy ys zs → IsUpToBy xs zs
up_to_by_trans [] ys zs p q = tt
up_to_by_trans (x ∷ xs) [] zs p q = absurd p
up_to_by_trans (x ∷ xs) (y ∷ ys) [] p q = absurd q
up_to_by_trans (x ∷ xs) (y ∷ ys) (z ∷ zs) (inl p) (inl q) = inl (omega arith)
up_to_by_trans (x ∷ xs) (y ∷ ys) (z ∷ zs) (inl p) (inr q) = inl (let e = q.0 in omega arith)
up_to_by_trans (x ∷ xs) (y ∷ ys) (z ∷ zs) (inr p) (inl q) = inl (let e = p.0 in omega arith)
up_to_by_trans (x ∷ xs) (y ∷ ys) (z ∷ zs) (inr p) (inr q) = inr (p.0 ∙ q.0, up_to_by_trans xs ys zs p.1 q.1)

up_to_trans : (r s t : Refusal) → IsUpTo r s → IsUpTo s t → IsUpTo r t
up_to_trans r s t = up_to_by_trans (keys_of r) (keys_of s) (keys_of t)

up_to_by_itself : (xs : List ℕ) → IsUpToBy xs xs
up_to_by_itself [] = tt
up_to_by_itself (x ∷ xs) = inr (refl, up_to_by_itself xs)

-- the same refusals, the same least one
pub least_same : (P Q : Refusal → Type 0) (o : Option Refusal) → ((r : Refusal) → P r → Q r) → ((r : Refusal) → Q r → P r) → IsLeast P o → IsLeast Q o
least_same P Q None f g h = λ s q. h s (g s q)
least_same P Q (Some r) f g h = (f r h.0, λ s q. h.1 s (g s q))

-- the lesser of two least ones is the least of both
pub least_lesser : (P Q : Refusal → Type 0) (a b c : Option Refusal) → IsLesser a b c → IsLeast P a → IsLeast Q b → IsLeast (λ r. P r ⊎ Q r) c
least_lesser P Q None None c l p q = subst (λ (o : Option Refusal). IsLeast (λ r. P r ⊎ Q r) o) (sym l) (λ s h. elim h [ inl x ↦ p s x | inr y ↦ q s y ])
least_lesser P Q None (Some t) c l p q = subst (λ (o : Option Refusal). IsLeast (λ r. P r ⊎ Q r) o) (sym l) (inr q.0, λ s h. elim h [ inl x ↦ absurd (p s x) | inr y ↦ q.1 s y ])
least_lesser P Q (Some r) None c l p q = subst (λ (o : Option Refusal). IsLeast (λ r. P r ⊎ Q r) o) (sym l) (inl p.0, λ s h. elim h [ inl x ↦ p.1 s x | inr y ↦ absurd (q s y) ])
least_lesser P Q (Some r) (Some t) c (inl l) p q = subst (λ (o : Option Refusal). IsLeast (λ r. P r ⊎ Q r) o) (sym l.0) (inl p.0, λ s h. elim h [ inl x ↦ p.1 s x | inr y ↦ up_to_trans r t s l.1 (q.1 s y) ])
least_lesser P Q (Some r) (Some t) c (inr l) p q = subst (λ (o : Option Refusal). IsLeast (λ r. P r ⊎ Q r) o) (sym l.0) (inr q.0, λ s h. elim h [ inl x ↦ up_to_trans t r s l.1 (p.1 s x) | inr y ↦ q.1 s y ])

-- one refusal that stands where P holds
pub least_refused : (P : Type 0) (b : Bool) (r : Refusal) → (b ≡ true → P) → (P → b ≡ true) → IsLeast (Stands P r) (cond b (Some r) None)
least_refused P true r to from = ((to refl, refl), λ f p. subst (λ (x : Refusal). IsUpTo r x) (sym p.1) (up_to_by_itself (keys_of r)))
least_refused P false r to from = λ f p. absurd (false≢true (from p.0))

module _ {X : Type 0} where
  -- none of the first none
  pub least_start : (xs : List X) (P : ℕ → X → Refusal → Type 0) → IsLeast (Among xs P 0) None
  least_start xs P = λ f p. omega (arith, p.1)

  -- one more
  pub least_more : (xs : List X) (P : ℕ → X → Refusal → Type 0) (i : ℕ) (x : X) (a b c : Option Refusal) → slice_get xs i ≡ Some x → IsLesser a b c → IsLeast (Among xs P i) a → IsLeast (P i x) b → IsLeast (Among xs P (i + 1)) c
  least_more xs P i x a b c at l p q = least_same (λ r. Among xs P i r ⊎ P i x r) (Among xs P (i + 1)) c
      (λ r. ⊎_elim (λ h. (h.0, omega (arith, h.1), h.2, h.3, h.4)) (λ h. (i, omega arith, x, at, h)))
      (λ r h. elim (cases_eq h.0 i) [
        | inl e ↦ inr (let same : h.2 ≡ x = same_Some h.2 x (sym h.3 ∙ ap (slice_get xs) e ∙ at) in subst (λ (n : ℕ). P n x r) e (subst (λ (y : X). P h.0 y r) same h.4))
        | inr ne ↦ inl (h.0, omega (arith, h.1), h.2, h.3, h.4)
      ])
      (least_lesser (Among xs P i) (P i x) a b c l p q)

-- one more with which nothing is wrong
pub least_stays : {X : Type 0} (xs : List X) (P : ℕ → X → Refusal → Type 0) (i : ℕ) (x : X) (a b : Option Refusal) → slice_get xs i ≡ Some x → IsLeast (Among xs P i) a → is_some b ≡ false → IsLeast (P i x) b → IsLeast (Among xs P (i + 1)) a
least_stays xs P i x a None at p none q = least_more xs P i x a None a at (by a) p q
  where
    by : (o : Option Refusal) → IsLesser o None o
    by None = refl
    by (Some r) = refl
least_stays xs P i x a (Some r) at p none q = absurd (false≢true (sym none))

-- the first refusal doesn't stand
pub only_second : (P : Type 0) (flag : Bool) (r : Refusal) (Q : Refusal → Type 0) (b : Option Refusal) → (P → flag ≡ true) → flag ≡ false → IsLeast Q b → IsLeast (λ f. Stands P r f ⊎ Q f) b
only_second P flag r Q b from unset q = least_lesser (Stands P r) Q None b b refl (λ s p. absurd (false≢true (sym unset ∙ from p.0))) q
