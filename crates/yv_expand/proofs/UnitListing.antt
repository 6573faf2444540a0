-- Lists that are written, and lists of numbers.
use Rattle.std.proofs.Common.{◌≡◌, ◌≢◌, ℕ, ◌+◌, ◌⊎◌, inl, inr, zero, suc, Bool, true, false, if◌then◌else◌, List, [], ◌∷◌, ◌++◌, length, set, drop, refl, sym, ◌∙◌, ap, subst, arith, Some, None}
use Rattle.std.proofs.lemmas.List.{at_drop_more}
use Rattle.std.proofs.lemmas.Option.{same_Some, slice_get_within, get_or_from_slice_get}
use Rattle.std.specs.List.{slice_get, Contains}
use Rattle.yv_link_scopes.specs.Rows.{Row}
use Rattle.yv_expand_statements.specs.StatementBlocks.{numbers_from}

-- one more item
pub pushed_at : {A : Type 0} (xs : List A) (y r : A) (a : ℕ) → slice_get (xs ++ y ∷ []) a ≡ Some r → (slice_get xs a ≡ Some r) ⊎ ((a ≡ length xs) × (y ≡ r))
pushed_at [] y r zero h = inr (refl, same_Some y r h)
pushed_at [] y r (suc a) h = cc
pushed_at (x ∷ xs) y r zero h = inl h
pushed_at (x ∷ xs) y r (suc a) h = elim (pushed_at xs y r a h) [ inl old ↦ inl old | inr (e, same) ↦ inr (omega (arith, e), same) ]

pub longer : {A : Type 0} (xs : List A) (y : A) → length (xs ++ y ∷ []) ≡ length xs + 1
longer [] y = refl
longer (x ∷ xs) y = omega (arith, longer xs y)

-- one item written
pub set_at : {A : Type 0} (xs : List A) (a k : ℕ) (y v : A) → slice_get (set xs a y) k ≡ Some v → ((k ≡ a) × (v ≡ y)) ⊎ ((k ≢ a) × (slice_get xs k ≡ Some v))
set_at [] a k y v h = absurd (let bad : None ≡ Some v = h in cc)
set_at (x ∷ xs) zero zero y v h = inl (refl, sym (same_Some y v h))
set_at (x ∷ xs) zero (suc k) y v h = inr (omega arith, h)
set_at (x ∷ xs) (suc a) zero y v h = inr (omega arith, h)
set_at (x ∷ xs) (suc a) (suc k) y v h = elim (set_at xs a k y v h) [ inl (e, same) ↦ inl (omega (arith, e), same) | inr (ne, same) ↦ inr ((λ e. ne (omega (arith, e))), same) ]

pub rest_of : {A : Type 0} (xs : List A) (i : ℕ) (x : A) → slice_get xs i ≡ Some x → drop i xs ≡ x ∷ drop (i + 1) xs
rest_of xs i x at = at_drop_more (λ ys. ys) xs i x (slice_get_within xs i x at) ∙ ap (λ y. y ∷ drop (i + 1) xs) (get_or_from_slice_get xs i x x at)

-- the first of these, and one of the others
pub there_first : {A : Type 0} (x : A) (xs : List A) → Contains (x ∷ xs) x
there_first x xs = (zero, omega arith, refl)

pub there_later : {A : Type 0} (y x : A) (xs : List A) → Contains xs x → Contains (y ∷ xs) x
there_later y x xs (k, l, at) = (suc k, omega (arith, l), at)

there_cases : {A : Type 0} (y x : A) (xs : List A) → Contains (y ∷ xs) x → (y ≡ x) ⊎ Contains xs x
there_cases y x xs (zero, l, at) = inl at
there_cases y x xs (suc k, l, at) = inr (k, omega (arith, l), at)

none_there : {A : Type 0} (x : A) → Contains [] x → ⊥
none_there x h = omega (arith, h.1)

-- the numbers of the statements that pass
pub numbers_have : (p : ℕ → Row → Bool) (n i : ℕ) (rs : List Row) (r : Row) → slice_get rs i ≡ Some r → p (n + i) r ≡ true → Contains (numbers_from p n rs) (n + i)
numbers_have p n i [] r at h = absurd (let bad : None ≡ Some r = at in cc)
numbers_have p n zero (s ∷ rs) r at h =
    let e : n + 0 ≡ n = omega arith in
    let here : p n s ≡ true = ap (p n) (same_Some s r at) ∙ ap (λ m. p m r) (sym e) ∙ h in
    let first : Contains (numbers_from p n (s ∷ rs)) n = rw here (there_first n (numbers_from p (n + 1) rs)) in
    subst (λ (m : ℕ). Contains (numbers_from p n (s ∷ rs)) m) (sym e) first
numbers_have p n (suc i) (s ∷ rs) r at h =
    let e : n + 1 + i ≡ n + suc i = omega arith in
    let rest : Contains (numbers_from p (n + 1) rs) (n + suc i) = subst (λ (m : ℕ). Contains (numbers_from p (n + 1) rs) m) e (numbers_have p (n + 1) i rs r at (ap (λ m. p m r) e ∙ h)) in
    by (p n s) rest
  where
    by : (b : Bool) → Contains (numbers_from p (n + 1) rs) (n + suc i) → Contains (if b then n ∷ numbers_from p (n + 1) rs else numbers_from p (n + 1) rs) (n + suc i)
    by true c = there_later n (n + suc i) (numbers_from p (n + 1) rs) c
    by false c = c

pub numbers_are : (p : ℕ → Row → Bool) (n : ℕ) (rs : List Row) (k : ℕ) → Contains (numbers_from p n rs) k → (i : ℕ) × (r : Row) × (slice_get rs i ≡ Some r) × (k ≡ n + i) × (p k r ≡ true)
numbers_are p n [] k c = absurd (none_there k c)
numbers_are p n (s ∷ rs) k c = by (p n s) refl c (numbers_are p (n + 1) rs k)
  where
    next : (i : ℕ) × (r : Row) × (slice_get rs i ≡ Some r) × (k ≡ n + 1 + i) × (p k r ≡ true) → (i : ℕ) × (r : Row) × (slice_get (s ∷ rs) i ≡ Some r) × (k ≡ n + i) × (p k r ≡ true)
    next (i, r, at, e, h) = (suc i, r, at, omega (arith, e), h)

    by : (b : Bool) → p n s ≡ b → Contains (if b then n ∷ numbers_from p (n + 1) rs else numbers_from p (n + 1) rs) k → (Contains (numbers_from p (n + 1) rs) k → (i : ℕ) × (r : Row) × (slice_get rs i ≡ Some r) × (k ≡ n + 1 + i) × (p k r ≡ true)) → (i : ℕ) × (r : Row) × (slice_get (s ∷ rs) i ≡ Some r) × (k ≡ n + i) × (p k r ≡ true)
    by true e d f = elim (there_cases n k (numbers_from p (n + 1) rs) d) [
      | inl same ↦ (zero, s, refl, omega (arith, same), ap (λ m. p m s) (sym same) ∙ e)
      | inr later ↦ next (f later)
    ]
    by false e d f = next (f d)
