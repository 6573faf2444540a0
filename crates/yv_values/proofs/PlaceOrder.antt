-- Places in ascending order.
use Rattle.std.proofs.Common.{◌≡◌, ℕ, zero, suc, ◌<◌, ◌≤◌, ◌⊎◌, List, [], ◌∷◌, length, get_or, leb, ltb, refl, sym, subst, arith, inl, inr}
use Rattle.std.proofs.lemmas.Bool.{leb-true}
use Rattle.std.specs.Bool.{Decides}
use Rattle.std.specs.List.{insert}
use Rattle.std.specs.List.Sorted.{IsNonDecreasing}
use Rattle.std.proofs.lemmas.List.{get_or_default}
use Rattle.std.proofs.lemmas.List.Sorted.{IsNonDecreasingBy-insert}
use Rattle.std.proofs.lemmas.Bool.Decides.{Decides-like, Decides-ltb, nat_tests}
use Rattle.yv_values.specs.Places.{IsPlace, AddsPlace, IsLeastPlace, HasBetween}

place_at : (xs : List ℕ) (i : ℕ) → i < length xs → IsPlace xs (get_or xs i 0)
place_at [] i h = absurd (omega arith)
place_at (x ∷ xs) zero h = inl refl
place_at (x ∷ xs) (suc i) h = inr (place_at xs i (omega arith))

-- where a place stands
index_of : (xs : List ℕ) (p : ℕ) → IsPlace xs p → (i : ℕ) × (i < length xs) × (get_or xs i 0 ≡ p)
index_of [] p h = elim h [ ]
index_of (x ∷ xs) p (inl e) = (zero, omega arith, e)
index_of (x ∷ xs) p (inr h) = let f = index_of xs p h in (suc f.0, omega (arith, f.1), f.2)

insert_splits : (xs : List ℕ) (i p q : ℕ) → IsPlace (insert xs i p) q → IsPlace xs q ⊎ (q ≡ p)
insert_splits [] zero p q (inl e) = inr (sym e)
insert_splits [] zero p q (inr h) = inl h
insert_splits [] (suc i) p q (inl e) = inr (sym e)
insert_splits [] (suc i) p q (inr h) = inl h
insert_splits (x ∷ xs) zero p q (inl e) = inr (sym e)
insert_splits (x ∷ xs) zero p q (inr h) = inl h
insert_splits (x ∷ xs) (suc i) p q (inl e) = inl (inl e)
insert_splits (x ∷ xs) (suc i) p q (inr h) = elim (insert_splits xs i p q h) [ inl a ↦ inl (inr a) | inr b ↦ inr b ]

insert_joins : (xs : List ℕ) (i p q : ℕ) → IsPlace xs q ⊎ (q ≡ p) → IsPlace (insert xs i p) q
insert_joins [] zero p q (inl h) = inr h
insert_joins [] zero p q (inr e) = inl (sym e)
insert_joins [] (suc i) p q (inl h) = inr h
insert_joins [] (suc i) p q (inr e) = inl (sym e)
insert_joins (x ∷ xs) zero p q (inl h) = inr h
insert_joins (x ∷ xs) zero p q (inr e) = inl (sym e)
insert_joins (x ∷ xs) (suc i) p q (inl (inl e)) = inl e
insert_joins (x ∷ xs) (suc i) p q (inl (inr h)) = inr (insert_joins xs i p q (inl h))
insert_joins (x ∷ xs) (suc i) p q (inr e) = inr (insert_joins xs i p q (inr e))

pub inserted : (xs : List ℕ) (i p : ℕ) → AddsPlace xs (insert xs i p) p
inserted xs i p q = (insert_splits xs i p q, insert_joins xs i p q)

-- a place behind those that are below it
pub inserted_order : (xs : List ℕ) (i p : ℕ) → IsNonDecreasing xs → i ≤ length xs → ((k : ℕ) → k < i → get_or xs k 0 < p) → ((k : ℕ) → i ≤ k → k < length xs → p ≤ get_or xs k 0) → IsNonDecreasing (insert xs i p)
inserted_order xs i p up bound below above =
    IsNonDecreasingBy-insert (λ q. q) xs i p up bound
    (λ k d h. let low = below k h in let read = get_or_default xs k d 0 (omega (arith, h, bound)) in omega (arith, low, read))
    (λ k d le h. let high = above k le h in let read = get_or_default xs k d 0 h in omega (arith, high, read))

pub first_is_least : (xs : List ℕ) → 0 < length xs → IsNonDecreasing xs → IsLeastPlace xs (get_or xs 0 0)
first_is_least xs h up =
    (place_at xs 0 h, λ q g. let f = index_of xs q g in subst (λ r. get_or xs 0 0 ≤ r) f.2 (up 0 f.0 0 (omega arith) f.1))

module _ (xs : List ℕ) (i first last : ℕ) (up : IsNonDecreasing xs) (below : (k : ℕ) → k < i → get_or xs k 0 < first) where
  -- a place from the first on stands at i or behind
  stands_behind : (p : ℕ) → IsPlace xs p → first ≤ p → (k : ℕ) × (i ≤ k) × (k < length xs) × (get_or xs k 0 ≡ p)
  stands_behind p h low =
      let f = index_of xs p h in
      let small = below f.0 in
      (f.0, grind (arith, small, f.2, low), f.1, f.2)

  -- the place at i is the least from the first on
  pub within_here : (x : ℕ) → i < length xs → first ≤ get_or xs i 0 → x ≡ get_or xs i 0 → Decides (leb x last) (HasBetween xs first last)
  within_here x b low e = Decides-like (leb x last)
      (λ high. (x, subst (IsPlace xs) (sym e) (place_at xs i b), omega (arith, low, e), high))
      (λ h. let f = stands_behind h.0 h.1 h.2 in let rise = up i f.0 0 f.1 f.2 in omega (arith, rise, e, f.3, h.3))
      (leb-true x last, λ (h : x ≤ last). grind (arith, nat_tests))

  pub none_within : length xs ≤ i → HasBetween xs first last → ⊥
  none_within b h = let f = stands_behind h.0 h.1 h.2 in omega (arith, f.1, f.2)

-- a test that fails, of what isn't so
pub decided_past : (i n : ℕ) (P : Type 0) → n ≤ i → (P → ⊥) → Decides (ltb i n) P
decided_past i n P h never = Decides-like (ltb i n) (λ below. absurd (omega (arith, below, h))) (λ p. absurd (never p)) (Decides-ltb i n)
