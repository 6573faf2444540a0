-- Tables that are filled along an order.
use Rattle.std.proofs.Common.{◌≡◌, ◌≢◌, ℕ, ◌+◌, ◌<◌, ◌≤◌, ◌↔◌, ◌⊎◌, inl, inr, zero, suc, Bool, true, false, List, [], ◌∷◌, length, take, get_or, refl, sym, ◌∙◌, ap, subst, arith, Option, Some, None}
use Rattle.std.specs.List.{Contains, slice_get}
use Rattle.std.proofs.lemmas.Bool.{cases_eq, false≢true}
use Rattle.std.proofs.lemmas.List.{get_or_default, take_more, take_all}
use Rattle.std.proofs.lemmas.List.Elements.{Contains-append_cases}
use Rattle.std.proofs.lemmas.Option.{same_Some, slice_get_within}
use Rattle.yv_link_scopes.specs.Rows.{Row}
use Rattle.yv_link_definitions.specs.Refers.{is_type}
use Rattle.yv_type_chains.specs.Types.{IsTypeAt}
use Rattle.yv_base_tables.specs.Slots.{at}

pub one_in : (n m : ℕ) → Contains (n ∷ []) m → n ≡ m
one_in n m (zero, l, e) = e
one_in n m (suc k, l, e) = absurd (omega (arith, l))

pub next_in : (order : List ℕ) (i n k : ℕ) → i < length order → n ≡ get_or order i 0 → Contains (take (i + 1) order) k → Contains (take i order) k ⊎ (k ≡ n)
next_in order i n k l e c = elim (Contains-append_cases (take i order) (get_or order i 0 ∷ []) k (subst (λ xs. Contains xs k) (take_more order i 0 l) c)) [
  | inl a ↦ inl a
  | inr b ↦ inr (sym (e ∙ one_in (get_or order i 0) k b))
]

-- one more number, whatever may have been said of it before
pub walk_more : (P : ℕ → Option ℕ → Type 0) (order : List ℕ) (i n : ℕ) (old new : ℕ → Option ℕ) → i < length order → n ≡ get_or order i 0 → P n (new n) → ((k : ℕ) → k ≢ n → new k ≡ old k) → ((k : ℕ) → Contains (take i order) k → P k (old k)) → (k : ℕ) → Contains (take (i + 1) order) k → P k (new k)
walk_more P order i n old new l e here else before k c = elim (cases_eq k n) [
  | inl same ↦ subst (λ m. P m (new m)) (sym same) here
  | inr ne ↦ elim (next_in order i n k l e c) [
    | inl a ↦ subst (P k) (sym (else k ne)) (before k a)
    | inr same ↦ absurd (ne same)
  ]
]

-- places that the order doesn't have stay as they are
pub keep_empty : (order : List ℕ) (i n : ℕ) (old new : ℕ → Option ℕ) → i < length order → n ≡ get_or order i 0 → ((k : ℕ) → k ≢ n → new k ≡ old k) → ((k : ℕ) → (Contains order k → ⊥) → old k ≡ None) → (k : ℕ) → (Contains order k → ⊥) → new k ≡ None
keep_empty order i n old new l e else empty k out = else k (λ same. out (i, l, get_or_default order i k 0 l ∙ sym e ∙ sym same)) ∙ empty k out

no_row : (r : Row) → None ≡ Some r → ⊥
no_row r e = cc

type_or_none : (rows : List Row) (k : ℕ) → IsTypeAt rows k ⊎ (IsTypeAt rows k → ⊥)
type_or_none rows k = by (slice_get rows k) refl
  where
    of : (r : Row) (b : Bool) → slice_get rows k ≡ Some r → is_type r ≡ b → IsTypeAt rows k ⊎ (IsTypeAt rows k → ⊥)
    of r true at is = inl (r, at, is)
    of r false at is = inr (λ t. false≢true (sym is ∙ ap is_type (same_Some r t.0 (sym at ∙ t.1)) ∙ t.2))

    by : (o : Option Row) → slice_get rows k ≡ o → IsTypeAt rows k ⊎ (IsTypeAt rows k → ⊥)
    by (Some r) at = of r (is_type r) at refl
    by None at = inr (λ t. no_row t.0 (sym at ∙ t.1))

module _ (rows : List Row) (order : List ℕ) (exact : (a : ℕ) → Contains order a ↔ IsTypeAt rows a) where
  -- the order of the types has numbers of rows alone
  pub order_within : (i : ℕ) → i < length order → get_or order i 0 < length rows
  order_within i l =
      let t = (exact (get_or order i 0)).0 (i, l, get_or_default order i (get_or order i 0) 0 l) in
      slice_get_within rows (get_or order i 0) t.0 t.1

-- all numbers, those of other statements than types having none
pub walk_types : (P : ℕ → Option ℕ → Type 0) (rows : List Row) (order : List ℕ) (i : ℕ) (slots : List (Option ℕ)) → length order ≤ i → ((a : ℕ) → Contains order a ↔ IsTypeAt rows a) → ((k : ℕ) → (IsTypeAt rows k → ⊥) → P k None) → ((k : ℕ) → (Contains order k → ⊥) → at slots k ≡ None) → ((k : ℕ) → Contains (take i order) k → P k (at slots k)) → (k : ℕ) → P k (at slots k)
walk_types P rows order i slots past exact none empty all k = elim (type_or_none rows k) [
  | inl t ↦ all k (subst (λ xs. Contains xs k) (sym (take_all i order past)) ((exact k).1 t))
  | inr out ↦ subst (P k) (sym (empty k (λ c. out ((exact k).0 c)))) (none k out)
]
