-- The types in each block.
use Rattle.std.proofs.Common.{◌≡◌, ℕ, ◌+◌, ◌<◌, inl, inr, zero, suc, Bool, true, false, cond, List, [], ◌∷◌, length, refl, sym, ◌∙◌, ap, subst, arith, Some}
use Rattle.std.specs.List.{slice_get, Contains}
use Rattle.std.proofs.lemmas.Bool.{false≢true}
use Rattle.std.proofs.lemmas.List.Elements.{Contains-append_left, Contains-append_right, Contains-append_cases}
use Rattle.std.proofs.lemmas.Option.{same_Some, slice_get_within}
use Rattle.yv_link_scopes.specs.Rows.{Row}
use Rattle.yv_type_chains.specs.Types.{is_type_in, types_from, types_in}

nothing_in : (m : ℕ) → Contains [] m → ⊥
nothing_in m c = omega (arith, c.1)

one_in : (n m : ℕ) → Contains (n ∷ []) m → n ≡ m
one_in n m (zero, l, e) = e
one_in n m (suc k, l, e) = absurd (omega (arith, l))

perhaps_in : (b : Bool) (n m : ℕ) → Contains (cond b (n ∷ []) []) m → (b ≡ true) × (n ≡ m)
perhaps_in true n m c = (refl, one_in n m c)
perhaps_in false n m c = absurd (nothing_in m c)

is_in : (b : Bool) (n : ℕ) → b ≡ true → Contains (cond b (n ∷ []) []) n
is_in true n e = (0, omega arith, refl)
is_in false n e = absurd (false≢true e)

abbrev entry_of : ℕ → ℕ → Row → List ℕ
entry_of block n r = cond (is_type_in block n r) (n ∷ []) []

module _ (block : ℕ) where
  -- a listed type is a type in the block
  type_at : (n : ℕ) (rows : List Row) (m : ℕ) → Contains (types_from block n rows) m → (i : ℕ) × (n + i ≡ m) × (r : Row) × (slice_get rows i ≡ Some r) × (is_type_in block m r ≡ true)
  type_at n [] m c = absurd (nothing_in m c)
  type_at n (r ∷ rows) m c = elim (Contains-append_cases (entry_of block n r) (types_from block (n + 1) rows) m c) [
    | inl here ↦ let p = perhaps_in (is_type_in block n r) n m here in (0, omega (arith, p.1), r, refl, ap (λ x. is_type_in block x r) (sym p.1) ∙ p.0)
    | inr there ↦ let q = type_at (n + 1) rows m there in (suc q.0, omega (arith, q.1), q.2, q.3, q.4)
  ]

  listed_at : (n m : ℕ) (rows : List Row) (i : ℕ) (r : Row) → n + i ≡ m → slice_get rows i ≡ Some r → is_type_in block m r ≡ true → Contains (types_from block n rows) m
  listed_at n m [] i r e at is = cc
  listed_at n m (s ∷ rows) zero r e at is =
      let k : m ≡ n = omega (arith, e) in
      let one : is_type_in block n s ≡ true = ap (is_type_in block n) (same_Some s r at) ∙ ap (λ x. is_type_in block x r) (sym k) ∙ is in
      Contains-append_left (entry_of block n s) (types_from block (n + 1) rows) m (subst (λ x. Contains (entry_of block n s) x) (sym k) (is_in (is_type_in block n s) n one))
  listed_at n m (s ∷ rows) (suc i) r e at is =
      Contains-append_right (entry_of block n s) (types_from block (n + 1) rows) m (listed_at (n + 1) m rows i r (omega (arith, e)) at is)

  pub type_in : (rows : List Row) (m : ℕ) → Contains (types_in rows block) m → (r : Row) × (slice_get rows m ≡ Some r) × (is_type_in block m r ≡ true)
  type_in rows m c =
      let q = type_at 0 rows m c in
      let k : q.0 ≡ m = let e = q.1 in omega (arith, e) in
      (q.2, ap (slice_get rows) (sym k) ∙ q.3, q.4)

  pub in_types : (rows : List Row) (m : ℕ) (r : Row) → slice_get rows m ≡ Some r → is_type_in block m r ≡ true → Contains (types_in rows block) m
  in_types rows m r at is = listed_at 0 m rows m r (omega arith) at is

  -- the first of them is one
  pub first_in : (xs : List ℕ) (j : ℕ) → slice_get xs 0 ≡ Some j → Contains xs j
  first_in [] j e = cc
  first_in (x ∷ xs) j e = (0, omega arith, same_Some x j e)

  pub type_within : (rows : List Row) (j : ℕ) → slice_get (types_in rows block) 0 ≡ Some j → j < length rows
  type_within rows j e = let p = type_in rows j (first_in (types_in rows block) j e) in slice_get_within rows j p.0 p.1
