-- Tables that are filled along an order.
use Rattle.std.proofs.Common.{◌≡◌, ◌≢◌, ℕ, ◌+◌, ◌<◌, ◌⊎◌, inl, inr, zero, suc, List, [], ◌∷◌, length, take, get_or, refl, sym, ◌∙◌, subst, arith}
use Rattle.std.specs.List.{Contains}
use Rattle.std.proofs.lemmas.Bool.{cases_eq}
use Rattle.std.proofs.lemmas.List.{take_more}
use Rattle.std.proofs.lemmas.List.Elements.{Contains-append_cases}

one_in : (n m : ℕ) → Contains (n ∷ []) m → n ≡ m
one_in n m (zero, l, e) = e
one_in n m (suc k, l, e) = absurd (omega (arith, l))

next_in : (order : List ℕ) (i n k : ℕ) → i < length order → n ≡ get_or order i 0 → Contains (take (i + 1) order) k → Contains (take i order) k ⊎ (k ≡ n)
next_in order i n k l e c = elim (Contains-append_cases (take i order) (get_or order i 0 ∷ []) k (subst (λ xs. Contains xs k) (take_more order i 0 l) c)) [
  | inl a ↦ inl a
  | inr b ↦ inr (sym (e ∙ one_in (get_or order i 0) k b))
]

-- one more number, whatever may have been said of it before
pub walk_more : {X : Type 0} (P : ℕ → X → Type 0) (order : List ℕ) (i n : ℕ) (old new : ℕ → X) → i < length order → n ≡ get_or order i 0 → P n (new n) → ((k : ℕ) → k ≢ n → new k ≡ old k) → ((k : ℕ) → Contains (take i order) k → P k (old k)) → (k : ℕ) → Contains (take (i + 1) order) k → P k (new k)
walk_more P order i n old new l e here else before k c = elim (cases_eq k n) [
  | inl same ↦ subst (λ m. P m (new m)) (sym same) here
  | inr ne ↦ elim (next_in order i n k l e c) [
    | inl a ↦ subst (P k) (sym (else k ne)) (before k a)
    | inr same ↦ absurd (ne same)
  ]
]

item_itself : (xs : List ℕ) (i d : ℕ) → i < length xs → get_or xs i (get_or xs i d) ≡ get_or xs i d
item_itself [] i d l = absurd (omega (arith, l))
item_itself (x ∷ xs) zero d l = refl
item_itself (x ∷ xs) (suc i) d l = item_itself xs i d (omega (arith, l))

pub item_in : (xs : List ℕ) (i : ℕ) → i < length xs → Contains xs (get_or xs i 0)
item_in xs i l = (i, l, item_itself xs i 0 l)
