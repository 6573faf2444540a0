-- Lists of what may be missing.
use Rattle.std.proofs.Common.{◌≡◌, ℕ, ◌+◌, ◌<◌, zero, suc, Bool, true, false, ◌||◌, not, List, [], ◌∷◌, ◌++◌, map, length, get_or, take, Option, Some, None, is_some, refl, sym, ap, ◌∙◌, Vec, Global}
use Rattle.std.specs.List.{list_any, slice_get}
use Rattle.std.specs.Option.{option_map}
use Rattle.std.proofs.lemmas.List.{map_push, take_more}
use Rattle.std.proofs.lemmas.Option.{get_or_from_slice_get, same_Some, slice_get-map, slice_get_read, slice_get_within}

or_right : (a b : Bool) → b ≡ true → (a || b) ≡ true
or_right true b e = refl
or_right false b e = e

-- one that passes is there
pub any_there : {A : Type 0} (p : A → Bool) (xs : List A) (i : ℕ) (x : A) → slice_get xs i ≡ Some x → p x ≡ true → list_any p xs ≡ true
any_there p [] i x at e = cc
any_there p (y ∷ ys) zero x at e = ap (λ b. b || list_any p ys) (ap p (same_Some y x at) ∙ e)
any_there p (y ∷ ys) (suc i) x at e = or_right (p y) (list_any p ys) (any_there p ys i x at e)

module _ {A B : Type 0} (f : A → Option B) where
  present : (o : Option B) (y : B) → Some y ≡ o → not (is_some o) ≡ false
  present None y e = cc
  present (Some z) y e = refl

  -- nothing is missing where each has a value
  pub none_missing : (xs : List A) (ys : List B) → map (λ y. Some y) ys ≡ map f xs → list_any (λ x. not (is_some (f x))) xs ≡ false
  none_missing [] ys e = refl
  none_missing (x ∷ xs) [] e = cc
  none_missing (x ∷ xs) (y ∷ ys) e =
      let first : Some y ≡ f x = cc in
      let rest : map (λ y. Some y) ys ≡ map f xs = cc in
      ap (λ b. b || list_any (λ x. not (is_some (f x))) xs) (present (f x) y first) ∙ none_missing xs ys rest

  -- nothing is missing in lists where each has a value
  pub none_missing_in : (xss : List (List A)) (vs : List (Vec B Global)) → map (λ (v : Vec B Global). map (λ (y : B). Some y) v.items) vs ≡ map (map f) xss
      → list_any (list_any (λ x. not (is_some (f x)))) xss ≡ false
  none_missing_in [] vs e = refl
  none_missing_in (xs ∷ xss) [] e = cc
  none_missing_in (xs ∷ xss) (v ∷ vs) e =
      let first : map (λ (y : B). Some y) v.items ≡ map f xs = cc in
      let rest : map (λ (v : Vec B Global). map (λ (y : B). Some y) v.items) vs ≡ map (map f) xss = cc in
      ap (λ b. b || list_any (list_any (λ x. not (is_some (f x)))) xss) (none_missing xs v.items first) ∙ none_missing_in xss vs rest

  -- one more value
  pub values_more : (xs : List A) (i : ℕ) (x : A) (y : B) (old new : List B) → slice_get xs i ≡ Some x → Some y ≡ f x → new ≡ old ++ y ∷ [] → map (λ z. Some z) old ≡ map f (take i xs) → map (λ z. Some z) new ≡ map f (take (i + 1) xs)
  values_more xs i x y old new at is now before =
      ap (map (λ (z : B). Some z)) now
      ∙ map_push (λ (z : B). Some z) old y
      ∙ ap (λ l. l ++ Some y ∷ []) before
      ∙ ap (λ o. map f (take i xs) ++ o ∷ []) is
      ∙ sym (map_push f (take i xs) x)
      ∙ sym (ap (map f) (take_more xs i x (slice_get_within xs i x at) ∙ ap (λ z. take i xs ++ z ∷ []) (get_or_from_slice_get xs i x x at)))

-- the same test holds of the same values
pub any_same : {A : Type 0} (p q : A → Bool) → ((x : A) → p x ≡ q x) → (xs : List A) → list_any p xs ≡ list_any q xs
any_same {A} p q same xs = let both : p ≡ q = λ j x. same x j in ap (λ (r : A → Bool). list_any r xs) both

pub any_map : {A B : Type 0} (p : B → Bool) (f : A → B) (xs : List A) → list_any p (map f xs) ≡ list_any (λ x. p (f x)) xs
any_map p f [] = refl
any_map p f (x ∷ xs) = ap (λ b. p (f x) || b) (any_map p f xs)

pub item_read : {A B : Type 0} (f : A → B) (xs : List A) (k : ℕ) (x : A) → k < length xs → x ≡ get_or xs k x → slice_get (map f xs) k ≡ Some (f x)
item_read f xs k x h is = slice_get-map f xs k ∙ ap (option_map f) (slice_get_read xs (length xs) k x refl h is)

any_push : {A : Type 0} (p : A → Bool) (xs : List A) (y : A) → list_any p xs ≡ false → p y ≡ false → list_any p (xs ++ y ∷ []) ≡ false
any_push p [] y none here = ap (λ b. b || false) here
any_push p (x ∷ xs) y none here = let parts = neither (p x) (list_any p xs) none in ap (λ b. b || list_any p (xs ++ y ∷ [])) parts.0 ∙ any_push p xs y parts.1 here
  where
    neither : (a b : Bool) → (a || b) ≡ false → (a ≡ false) × (b ≡ false)
    neither true b e = cc
    neither false b e = (refl, e)

module _ {A B : Type 0} (g : A → B) (xs : List A) (i : ℕ) (x : A) (at : slice_get xs i ≡ Some x) where
  one_more : map g (take (i + 1) xs) ≡ map g (take i xs) ++ g x ∷ []
  one_more = ap (map g) (take_more xs i x (slice_get_within xs i x at) ∙ ap (λ z. take i xs ++ z ∷ []) (get_or_from_slice_get xs i x x at)) ∙ map_push g (take i xs) x

  -- one more that doesn't pass
  pub any_more : (p : B → Bool) → list_any p (map g (take i xs)) ≡ false → p (g x) ≡ false → list_any p (map g (take (i + 1) xs)) ≡ false
  any_more p none here = ap (list_any p) one_more ∙ any_push p (map g (take i xs)) (g x) none here

  -- one more of two lists that are alike
  pub mapped_more : {C D : Type 0} (h : C → D) (k : B → D) (y : C) (old new : List C) → h y ≡ k (g x) → new ≡ old ++ y ∷ [] → map h old ≡ map k (map g (take i xs)) → map h new ≡ map k (map g (take (i + 1) xs))
  mapped_more h k y old new here now before =
      ap (map h) now
      ∙ map_push h old y
      ∙ ap (λ l. l ++ h y ∷ []) before
      ∙ ap (λ z. map k (map g (take i xs)) ++ z ∷ []) here
      ∙ sym (map_push k (map g (take i xs)) (g x))
      ∙ sym (ap (map k) one_more)

-- one more of what two lists say alike
pub lists_more : {A B C : Type 0} (h : C → B) (g : A → B) (xs : List A) (i : ℕ) (x : A) (y : C) (old new : List C) → slice_get xs i ≡ Some x → h y ≡ g x → new ≡ old ++ y ∷ [] → map h old ≡ map g (take i xs)
    → map h new ≡ map g (take (i + 1) xs)
lists_more h g xs i x y old new at here now before =
    ap (map h) now
    ∙ map_push h old y
    ∙ ap (λ l. l ++ h y ∷ []) before
    ∙ ap (λ z. map g (take i xs) ++ z ∷ []) here
    ∙ sym (one_more g xs i x at)
