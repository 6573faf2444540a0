-- Items of lists.
use Rattle.std.proofs.Common.{◌≡◌, ◌+◌, ◌<◌, ◌⊎◌, inl, inr, ◌∙◌, ◌||◌, ℕ, zero, suc, List, [], ◌∷◌, ◌++◌, Bool, true, false, refl, sym, ap, subst, if◌then◌else◌, length, get_or, arith, Option, Some, None}
use Rattle.std.specs.List.{All, Contains, slice_get, flat_map, list_any, position_from}
use Rattle.std.proofs.lemmas.List.Concat.{flat_map-cons}
use Rattle.std.proofs.lemmas.List.Elements.{All-contains_itself, Contains-append_left}
use Rattle.std.proofs.lemmas.Bool.{false≢true}

pub no_item : {X : Type 0} (x : X) → Contains [] x → ⊥
no_item x h = absurd (let l = h.1 in omega (arith, l))

pub here : {X : Type 0} (x : X) (xs : List X) → Contains (x ∷ xs) x
here x xs = (0, omega arith, refl)

pub there : {X : Type 0} (x : X) (xs : List X) (y : X) → Contains xs y → Contains (x ∷ xs) y
there x xs y h = (suc h.0, (let l = h.1 in omega (arith, l)), h.2)

cases_at : {X : Type 0} (x : X) (xs : List X) (y : X) (k : ℕ) → k < length (x ∷ xs) → get_or (x ∷ xs) k y ≡ y → (x ≡ y) ⊎ Contains xs y
cases_at x xs y zero h e = inl e
cases_at x xs y (suc k) h e = inr (k, omega arith, e)

pub cases_of : {X : Type 0} (x : X) (xs : List X) (y : X) → Contains (x ∷ xs) y → (x ≡ y) ⊎ Contains xs y
cases_of x xs y h = cases_at x xs y h.0 h.1 h.2

pub only : {X : Type 0} (x y : X) → Contains (x ∷ []) y → x ≡ y
only x y h = elim (cases_of x [] y h) [ inl e ↦ e | inr n ↦ absurd (no_item y n) ]

pub join_cases : {X : Type 0} (xs ys : List X) (y : X) → Contains (xs ++ ys) y → Contains xs y ⊎ Contains ys y
join_cases [] ys y h = inr h
join_cases {X} (x ∷ xs) ys y h = elim (cases_of x (xs ++ ys) y h) [
  | inl e ↦ inl (subst (λ (z : X). Contains (x ∷ xs) z) e (here x xs))
  | inr t ↦ elim (join_cases xs ys y t) [ inl l ↦ inl (there x xs y l) | inr r ↦ inr r ]
]

pub join_right : {X : Type 0} (xs ys : List X) (y : X) → Contains ys y → Contains (xs ++ ys) y
join_right [] ys y h = h
join_right (x ∷ xs) ys y h = there x (xs ++ ys) y (join_right xs ys y h)

-- an item that one of a list gives
pub record IsGiven {A B : Type 0} (f : A → List B) (xs : List A) (y : B) : Type 0 where
  pub item : A
  pub among : Contains xs item
  pub gives : Contains (f item) y

pub flat_cases : {A B : Type 0} (f : A → List B) (xs : List A) (y : B) → Contains (flat_map f xs) y → IsGiven f xs y
flat_cases f [] y h = absurd (no_item y h)
flat_cases {A} {B} f (x ∷ xs) y h = elim (join_cases (f x) (flat_map f xs) y (subst (λ (l : List B). Contains l y) (flat_map-cons f x xs) h)) [
  | inl l ↦ record { item = x; among = here x xs; gives = l }
  | inr r ↦ let g : IsGiven f xs y = flat_cases f xs y r in record { item = g.item; among = there x xs g.item g.among; gives = g.gives }
]

pub flat_there : {A B : Type 0} (f : A → List B) (xs : List A) (x : A) (y : B) → Contains xs x → Contains (f x) y → Contains (flat_map f xs) y
flat_there f [] x y h g = absurd (no_item x h)
flat_there {A} {B} f (z ∷ xs) x y h g = subst (λ (l : List B). Contains l y) (sym (flat_map-cons f z xs)) (elim (cases_of z xs x h) [
  | inl e ↦ Contains-append_left (f z) (flat_map f xs) y (subst (λ (w : A). Contains (f w) y) (sym e) g)
  | inr t ↦ join_right (f z) (flat_map f xs) y (flat_there f xs x y t g)
])

-- what holds of each item
pub all_items : {X : Type 0} (P : X → Type 0) (xs : List X) → ((x : X) → Contains xs x → P x) → All P xs
all_items P xs f = λ k d h. f (get_or xs k d) (All-contains_itself xs k d h)

-- the item at the first place that passes
pub record IsPassing {X : Type 0} (p : X → Bool) (k : ℕ) (xs : List X) (i : ℕ) : Type 0 where
  pub place : ℕ
  pub at : i ≡ k + place
  pub item : X
  pub get : slice_get xs place ≡ Some item
  pub passes : p item ≡ true

pub passing : {X : Type 0} (p : X → Bool) (k : ℕ) (xs : List X) (i : ℕ) → position_from p k xs ≡ Some i → IsPassing p k xs i
passing p k [] i e = absurd (let bad : None ≡ Some i = e in cc)
passing {X} p k (x ∷ xs) i e = by (p x) refl e (passing p (k + 1) xs i)
  where
    by : (b : Bool) → p x ≡ b → (if b then Some k else position_from p (k + 1) xs) ≡ Some i → (position_from p (k + 1) xs ≡ Some i → IsPassing p (k + 1) xs i) → IsPassing p k (x ∷ xs) i
    by true is h later = record { place = 0; at = (let s : k ≡ i = cc in omega (arith, s)); item = x; get = refl; passes = is }
    by false is h later = (let r : IsPassing p (k + 1) xs i = later h in record { place = suc r.place; at = (let a = r.at in omega (arith, a)); item = r.item; get = r.get; passes = r.passes })

-- a place at which one passes
pub placed : {X : Type 0} (p : X → Bool) (k : ℕ) (xs : List X) (x : X) → Contains xs x → p x ≡ true → (i : ℕ) × (position_from p k xs ≡ Some i)
placed p k [] x h e = absurd (no_item x h)
placed {X} p k (y ∷ xs) x h e = by (p y) refl (λ t. placed p (k + 1) xs x t e)
  where
    by : (b : Bool) → p y ≡ b → (Contains xs x → (i : ℕ) × (position_from p (k + 1) xs ≡ Some i)) → (i : ℕ) × ((if b then Some k else position_from p (k + 1) xs) ≡ Some i)
    by true is later = (k, refl)
    by false is later = elim (cases_of y xs x h) [
      | inl same ↦ absurd (false≢true (sym is ∙ ap p same ∙ e))
      | inr t ↦ later t
    ]

-- where one test passes, another does
pub placed_by : {X : Type 0} (p q : X → Bool) (k : ℕ) (xs : List X) → ((x : X) → p x ≡ true → q x ≡ true) → list_any p xs ≡ true → (i : ℕ) × (position_from q k xs ≡ Some i)
placed_by p q k [] f h = absurd (false≢true h)
placed_by {X} p q k (x ∷ xs) f h = by (p x) (q x) refl refl h (placed_by p q (k + 1) xs f)
  where
    by : (b d : Bool) → p x ≡ b → q x ≡ d → (b || list_any p xs) ≡ true → (list_any p xs ≡ true → (i : ℕ) × (position_from q (k + 1) xs ≡ Some i)) → (i : ℕ) × ((if d then Some k else position_from q (k + 1) xs) ≡ Some i)
    by b true is js g later = (k, refl)
    by true false is js g later = absurd (false≢true (sym js ∙ f x is))
    by false false is js g later = later g
