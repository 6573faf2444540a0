-- Which numbers are listed.
use Rattle.std.proofs.Common.{◌≡◌, ℕ, ◌+◌, ◌<◌, ◌↔◌, ◌⊎◌, inl, inr, zero, suc, Bool, true, false, if◌then◌else◌, List, [], ◌∷◌, length, get_or, Option, Some, None, refl, sym, ◌∙◌, ap, subst, arith, eqb-true, eq-eqb}
use Rattle.std.specs.List.{slice_get, Contains}
use Rattle.std.proofs.lemmas.List.{length_push, get_or_push, get_or_append_left}
use Rattle.std.proofs.lemmas.Bool.{cases_eq}
use Rattle.std.proofs.lemmas.Option.{same_Some}
use Rattle.yv_base_tables.specs.Families.{is_place, numbers_from, numbers_at, by_place}

there_first : (x : ℕ) (xs : List ℕ) → Contains (x ∷ xs) x
there_first x xs = (zero, omega arith, refl)

there_later : (y x : ℕ) (xs : List ℕ) → Contains xs x → Contains (y ∷ xs) x
there_later y x xs (k, l, at) = (suc k, omega (arith, l), at)

there_cases : (y x : ℕ) (xs : List ℕ) → Contains (y ∷ xs) x → (y ≡ x) ⊎ Contains xs x
there_cases y x xs (zero, l, at) = inl at
there_cases y x xs (suc k, l, at) = inr (k, omega (arith, l), at)

none_there : (x : ℕ) → Contains [] x → ⊥
none_there x h = omega (arith, h.1)

place_is : (p : ℕ) (o : Option ℕ) → is_place p o ≡ true → o ≡ Some p
place_is p None h = absurd (let bad : false ≡ true = h in cc)
place_is p (Some q) h = ap Some (eqb-true q p h)

is_listed : (p n i : ℕ) (ps : List (Option ℕ)) → slice_get ps i ≡ Some (Some p) → Contains (numbers_from p n ps) (n + i)
is_listed p n i [] at = absurd (let bad : None ≡ Some (Some p) = at in cc)
is_listed p n zero (o ∷ ps) at =
    let test : is_place p o ≡ true = ap (is_place p) (same_Some o (Some p) at) ∙ eq-eqb p p refl in
    let e : n ≡ n + 0 = omega arith in
    let first : Contains (numbers_from p n (o ∷ ps)) n = rw test (there_first n (numbers_from p (n + 1) ps)) in
    subst (λ (m : ℕ). Contains (numbers_from p n (o ∷ ps)) m) e first
is_listed p n (suc i) (o ∷ ps) at =
    let e : n + 1 + i ≡ n + suc i = omega arith in
    by (is_place p o) (subst (λ (m : ℕ). Contains (numbers_from p (n + 1) ps) m) e (is_listed p (n + 1) i ps at))
  where
    by : (b : Bool) → Contains (numbers_from p (n + 1) ps) (n + suc i) → Contains (if b then n ∷ numbers_from p (n + 1) ps else numbers_from p (n + 1) ps) (n + suc i)
    by true c = there_later n (n + suc i) (numbers_from p (n + 1) ps) c
    by false c = c

stands : (p n : ℕ) (ps : List (Option ℕ)) (k : ℕ) → Contains (numbers_from p n ps) k → (i : ℕ) × (k ≡ n + i) × (slice_get ps i ≡ Some (Some p))
stands p n [] k c = absurd (none_there k c)
stands p n (o ∷ ps) k c = by (is_place p o) refl c (stands p (n + 1) ps k)
  where
    next : (i : ℕ) × (k ≡ n + 1 + i) × (slice_get ps i ≡ Some (Some p)) → (i : ℕ) × (k ≡ n + i) × (slice_get (o ∷ ps) i ≡ Some (Some p))
    next (i, e, at) = (suc i, omega (arith, e), at)

    by : (b : Bool) → is_place p o ≡ b → Contains (if b then n ∷ numbers_from p (n + 1) ps else numbers_from p (n + 1) ps) k → (Contains (numbers_from p (n + 1) ps) k → (i : ℕ) × (k ≡ n + 1 + i) × (slice_get ps i ≡ Some (Some p))) → (i : ℕ) × (k ≡ n + i) × (slice_get (o ∷ ps) i ≡ Some (Some p))
    by true e d f = elim (there_cases n k (numbers_from p (n + 1) ps) d) [
      | inl same ↦ (zero, omega (arith, same), ap Some (place_is p o e))
      | inr later ↦ next (f later)
    ]
    by false e d f = next (f d)

pub listed_at : (places : List (Option ℕ)) (place number : ℕ) → Contains (numbers_at places place) number ↔ (slice_get places number ≡ Some (Some place))
listed_at places place number = (
  λ c. let s = stands place 0 places number c in ap (slice_get places) (let e : number ≡ s.0 = omega (arith, s.1) in e) ∙ s.2,
  λ at. subst (λ (m : ℕ). Contains (numbers_at places place) m) (let e : 0 + number ≡ number = omega arith in e) (is_listed place 0 number places at),
)

pub count_is : (places : List (Option ℕ)) (count : ℕ) → length (by_place places count) ≡ count
count_is places zero = refl
count_is places (suc count) = length_push (by_place places count) (numbers_at places count) ∙ omega (arith, count_is places count)

pub family_at : (places : List (Option ℕ)) (count place : ℕ) → place < count → get_or (by_place places count) place [] ≡ numbers_at places place
family_at places zero place h = absurd (omega (arith, h))
family_at places (suc count) place h = elim (cases_eq place count) [
  | inl e ↦ get_or_push (by_place places count) (numbers_at places count) [] place (count_is places count ∙ sym e) ∙ ap (numbers_at places) (sym e)
  | inr ne ↦ get_or_append_left (by_place places count) (numbers_at places count ∷ []) [] place (omega (arith, count_is places count, h, ne)) ∙ family_at places count place (omega (arith, h, ne))
]
