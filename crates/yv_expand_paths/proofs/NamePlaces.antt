-- The first places of names, as their list grows.
use Rattle.std.proofs.Common.{◌≡◌, ℕ, ◌+◌, ◌<◌, zero, suc, Bool, true, false, cond, List, [], ◌∷◌, ◌++◌, length, Option, None, Some, refl, sym, ◌∙◌, ap, arith}
use Rattle.std.specs.List.{slice_get, position_from}
use Rattle.std.specs.Str.{bytes_eq}
use Rattle.std.proofs.lemmas.Option.{same_Some}
use Rattle.std.proofs.lemmas.Slice.Eq.{bytes_eq-Decides}
use Rattle.yv_expand_paths.specs.InnerNameNumbers.{place_of}
use Rattle.yv_link_scopes.specs.InnerPlaces.{first_some}

first_cond : (b : Bool) (k : ℕ) (o q : Option ℕ) → cond b (Some k) (first_some o q) ≡ first_some (cond b (Some k) o) q
first_cond true k o q = refl
first_cond false k o q = refl

module _ {X : Type 0} (p : X → Bool) where
  position_push : (k : ℕ) (xs : List X) (y : X) → position_from p k (xs ++ y ∷ []) ≡ first_some (position_from p k xs) (cond (p y) (Some (k + length xs)) None)
  position_push k [] y = ap (λ n. cond (p y) (Some n) None) (let e : k ≡ k + 0 = omega arith in e)
  position_push k (x ∷ xs) y =
      let count : k + 1 + length xs ≡ k + suc (length xs) = omega arith in
      ap (λ o. cond (p x) (Some k) o) (position_push (k + 1) xs y ∙ ap (λ n. first_some (position_from p (k + 1) xs) (cond (p y) (Some n) None)) count)
      ∙ first_cond (p x) k (position_from p (k + 1) xs) (cond (p y) (Some (k + suc (length xs))) None)

  position_front : (k a : ℕ) (xs ys : List X) → position_from p k xs ≡ Some a → position_from p k (xs ++ ys) ≡ Some a
  position_front k a [] ys h = absurd (let bad : None ≡ Some a = h in cc)
  position_front k a (x ∷ xs) ys h = by (p x) refl h (position_front (k + 1) a xs ys)
    where
      by : (b : Bool) → p x ≡ b → cond b (Some k) (position_from p (k + 1) xs) ≡ Some a → (position_from p (k + 1) xs ≡ Some a → position_from p (k + 1) (xs ++ ys) ≡ Some a) → cond (p x) (Some k) (position_from p (k + 1) (xs ++ ys)) ≡ Some a
      by true e f on = ap (λ b. cond b (Some k) (position_from p (k + 1) (xs ++ ys))) e ∙ f
      by false e f on = ap (λ b. cond b (Some k) (position_from p (k + 1) (xs ++ ys))) e ∙ on f

  pub position_hit : (k : ℕ) (xs : List X) (a : ℕ) → position_from p k xs ≡ Some a → (j : ℕ) × (x : X) × (a ≡ k + j) × (j < length xs) × (slice_get xs j ≡ Some x) × (p x ≡ true)
  position_hit k [] a h = absurd (let bad : None ≡ Some a = h in cc)
  position_hit k (x ∷ xs) a h = by (p x) refl h (position_hit (k + 1) xs a)
    where
      by : (b : Bool) → p x ≡ b → cond b (Some k) (position_from p (k + 1) xs) ≡ Some a → (position_from p (k + 1) xs ≡ Some a → (j : ℕ) × (y : X) × (a ≡ k + 1 + j) × (j < length xs) × (slice_get xs j ≡ Some y) × (p y ≡ true)) → (j : ℕ) × (y : X) × (a ≡ k + j) × (j < length (x ∷ xs)) × (slice_get (x ∷ xs) j ≡ Some y) × (p y ≡ true)
      by true e f rest = (zero, x, (let s : k ≡ a = same_Some k a f in omega (arith, s)), omega arith, refl, e)
      by false e f rest = let r = rest f in (suc r.0, r.1, omega (arith, r.2), omega (arith, r.3), r.4, r.5)

  position_there : (k : ℕ) (xs : List X) (i : ℕ) (x : X) → slice_get xs i ≡ Some x → p x ≡ true → (a : ℕ) × (position_from p k xs ≡ Some a)
  position_there k [] i x at h = absurd (let bad : None ≡ Some x = at in cc)
  position_there k (y ∷ xs) zero x at h = (k, ap (λ b. cond b (Some k) (position_from p (k + 1) xs)) (ap p (same_Some y x at) ∙ h))
  position_there k (y ∷ xs) (suc i) x at h = by (p y) refl (position_there (k + 1) xs i x at h)
    where
      by : (b : Bool) → p y ≡ b → (a : ℕ) × (position_from p (k + 1) xs ≡ Some a) → (a : ℕ) × (cond (p y) (Some k) (position_from p (k + 1) xs) ≡ Some a)
      by true e r = (k, ap (λ b. cond b (Some k) (position_from p (k + 1) xs)) e)
      by false e r = (r.0, ap (λ b. cond b (Some k) (position_from p (k + 1) xs)) e ∙ r.1)

pub place_push : (names : List (List ℕ)) (y n : List ℕ) → place_of (names ++ y ∷ []) n ≡ first_some (place_of names n) (cond (bytes_eq y n) (Some (length names)) None)
place_push names y n =
    position_push (λ m. bytes_eq m n) 0 names y
    ∙ ap (λ i. first_some (place_of names n) (cond (bytes_eq y n) (Some i) None)) (let e : 0 + length names ≡ length names = omega arith in e)

pub place_front : (names others : List (List ℕ)) (n : List ℕ) (a : ℕ) → place_of names n ≡ Some a → place_of (names ++ others) n ≡ Some a
place_front names others n a h = position_front (λ m. bytes_eq m n) 0 a names others h

pub place_hit : (names : List (List ℕ)) (n : List ℕ) (a : ℕ) → place_of names n ≡ Some a → (a < length names) × (slice_get names a ≡ Some n)
place_hit names n a h =
    let found = position_hit (λ m. bytes_eq m n) 0 names a h in
    let same : a ≡ found.0 = omega (arith, found.2) in
    let name : found.1 ≡ n = (bytes_eq-Decides found.1 n).0 found.5 in
    (omega (arith, same, found.3), ap (slice_get names) same ∙ found.4 ∙ ap Some name)

pub place_there : (names : List (List ℕ)) (n : List ℕ) (i : ℕ) → slice_get names i ≡ Some n → (a : ℕ) × (place_of names n ≡ Some a)
place_there names n i at = position_there (λ m. bytes_eq m n) 0 names i n at ((bytes_eq-Decides n n).1 refl)

pub one_name : (names : List (List ℕ)) (m n : List ℕ) (a : ℕ) → place_of names m ≡ Some a → place_of names n ≡ Some a → m ≡ n
one_name names m n a h g = same_Some m n (sym (place_hit names m a h).1 ∙ (place_hit names n a g).1)
