-- Lists each of whose elements stands before all behind it.
use Rattle.std.proofs.Common.{◌≡◌, zero, suc, ◌+◌, ◌⊎◌, inl, inr, Bool, true, false, ◌||◌, cond, Result, Ok, Err, IfOk, List, [], ◌∷◌, length, get_or, map, refl, sym, ◌∙◌, ap, subst, arith}
use Rattle.std.specs.Cmp.{IsTotalOrder}
use Rattle.std.specs.List.{AllAdjacentBelow, AllByRecursion, dedup, dedup_from, list_any}
use Rattle.std.specs.List.Sorted.{IsPermutation, IsSortedBy, IsStrictlySortedBy}
use Rattle.std.specs.Ordering.{eq_by_cmp, is_lt, ordering_reverse}
use Rattle.std.specs.declared.cmp.Ordering.{Ordering}
use Rattle.std.specs.declared.cmp.Ordering.TheVariants.{Less, Equal, Greater}
use Rattle.std.proofs.lemmas.Cmp.{on_total}
use Rattle.std.proofs.lemmas.Map.Keys.{sorted_from_all_adjacent}
use Rattle.std.proofs.lemmas.List.Kept.{IsStrictlySortedBy-dedup}
use Rattle.std.proofs.lemmas.List.Sorted.{list_any-IsPermutation}
use Rattle.yv_values.proofs.MappedLists.{any_mapped}

-- what is read of the elements of a list in order is in order
all_mapped : {X K : Type 0} (f : X → K) (P : K → Type 0) (xs : List X) → AllByRecursion (λ x. P (f x)) xs → AllByRecursion P (map f xs)
all_mapped f P [] h = tt
all_mapped f P (x ∷ xs) h = (h.0, all_mapped f P xs h.1)

pub rises_mapped : {X K : Type 0} (f : X → K) (c : K → K → Ordering) (xs : List X) → IsStrictlySortedBy (λ a b. c (f a) (f b)) xs → IsStrictlySortedBy c (map f xs)
unfolding IsStrictlySortedBy
rises_mapped f c [] h = tt
rises_mapped f c (x ∷ xs) h = (all_mapped f (λ y. c (f x) y ≡ Less) xs h.0, rises_mapped f c xs h.1)

-- a list each of whose elements stands before the next
pub adjacent_rises : {X K : Type 0} (f : X → K) (c : K → K → Ordering) → IsTotalOrder c → (xs : List X) → AllAdjacentBelow (λ a b. c (f a) (f b) ≡ Less) xs (length xs) → IsStrictlySortedBy c (map f xs)
unfolding IsStrictlySortedBy
adjacent_rises f c o [] h = tt
adjacent_rises f c o (x ∷ xs) h = rises_mapped f c (x ∷ xs) (sorted_from_all_adjacent (on_total f o) (x ∷ xs) x (λ k b. h k x b))

greater_isnt_less : (o r : Ordering) → o ≡ ordering_reverse r → r ≡ Less → is_lt o ≡ false
greater_isnt_less o Less e h = rw e refl
greater_isnt_less o Equal e h = absurd (cc)
greater_isnt_less o Greater e h = absurd (cc)

-- such a list is sorted
pub sorted_from_rising : {X K : Type 0} (f : X → K) (c : K → K → Ordering) → IsTotalOrder c → (xs : List X) → IsStrictlySortedBy c (map f xs) → IsSortedBy (λ a b. is_lt (c (f a) (f b))) xs
unfolding IsStrictlySortedBy
sorted_from_rising f c o [] h k d low high = absurd (omega (arith, high))
sorted_from_rising f c o (x ∷ []) h k d low high = absurd (omega (arith, high))
sorted_from_rising f c o (x ∷ y ∷ ys) h zero d low high = greater_isnt_less (c (f y) (f x)) (c (f x) (f y)) (o.antisymm (f y) (f x)) h.0.0
sorted_from_rising f c o (x ∷ y ∷ ys) h (suc k) d low high =
    let e : suc (k + 1) ≡ suc k + 1 = omega arith in
    subst (λ n. is_lt (c (f (get_or (x ∷ y ∷ ys) n d)) (f (get_or (y ∷ ys) k d))) ≡ false) e (sorted_from_rising f c o (y ∷ ys) h.1 k d (omega arith) (omega (arith, high)))

-- what is left where elements that are the same are left out
one_less : (p q r : Bool) → p ≡ q → (q || r) ≡ (q || (p || r))
one_less true true r e = refl
one_less false false r e = refl
one_less true false r e = absurd (cc)
one_less false true r e = absurd (cc)

pub moved_same : {X K : Type 0} (f : X → K) (p : K → Bool) (xs ys : List X) → IsPermutation xs ys → list_any p (map f ys) ≡ list_any p (map f xs)
moved_same f p xs ys moved = any_mapped f p ys ∙ sym (list_any-IsPermutation (λ x. p (f x)) xs ys moved) ∙ sym (any_mapped f p xs)

pub where_ok : {A E : Type 0} {P Q : A → Type 0} (r : Result A E) → ((a : A) → P a → Q a) → IfOk r P → IfOk r Q
where_ok (Ok a) to h = to a h
where_ok (Err e) to h = tt

any_from : {X : Type 0} (same : X → X → Bool) (p : X → Bool) → ((x y : X) → same x y ≡ true → p x ≡ p y) → (k : X) (xs : List X) → list_any p (dedup_from same k xs) ≡ (p k || list_any p xs)
any_from same p e k [] = refl
any_from same p e k (x ∷ xs) = by (same x k) (λ t. e x k t) (any_from same p e k xs) (any_from same p e x xs)
  where
    by : (b : Bool) → (b ≡ true → p x ≡ p k) → list_any p (dedup_from same k xs) ≡ (p k || list_any p xs) → list_any p (dedup_from same x xs) ≡ (p x || list_any p xs) → list_any p (cond b (dedup_from same k xs) (k ∷ dedup_from same x xs)) ≡ (p k || (p x || list_any p xs))
    by true t kept next = kept ∙ one_less (p x) (p k) (list_any p xs) (t refl)
    by false t kept next = ap (λ b. p k || b) next

pub any_dedup : {X : Type 0} (same : X → X → Bool) (p : X → Bool) → ((x y : X) → same x y ≡ true → p x ≡ p y) → (xs : List X) → list_any p (dedup same xs) ≡ list_any p xs
any_dedup same p e [] = refl
any_dedup same p e (x ∷ xs) = any_from same p e x xs

-- a list that is sorted and from which elements are left out that are read as the one before: it
-- rises, and has the same
module _ {X K : Type 0} (f : X → K) (c : K → K → Ordering) (same : X → X → Bool) where
  pub left_rises : IsTotalOrder (λ (a b : X). c (f a) (f b)) → ((x y : X) → same x y ≡ eq_by_cmp (λ (a b : X). c (f a) (f b)) x y) → (xs : List X) → IsSortedBy (λ (a b : X). is_lt (c (f a) (f b))) xs → IsStrictlySortedBy c (map f (dedup same xs))
  left_rises o ties xs up = rises_mapped f c (dedup same xs) (IsStrictlySortedBy-dedup o ties xs up)

  pub kept_same : ((x y : X) → same x y ≡ true → f x ≡ f y) → (p : K → Bool) (xs : List X) → list_any p (map f (dedup same xs)) ≡ list_any p (map f xs)
  kept_same e p xs = any_mapped f p (dedup same xs) ∙ any_dedup same (λ x. p (f x)) (λ x y h. ap p (e x y h)) xs ∙ sym (any_mapped f p xs)

  pub left_same : ((x y : X) → same x y ≡ true → f x ≡ f y) → (p : K → Bool) (xs ys : List X) → IsPermutation xs ys → list_any p (map f (dedup same ys)) ≡ list_any p (map f xs)
  left_same e p xs ys moved =
      any_mapped f p (dedup same ys)
      ∙ any_dedup same (λ x. p (f x)) (λ x y h. ap p (e x y h)) ys
      ∙ sym (list_any-IsPermutation (λ x. p (f x)) xs ys moved)
      ∙ sym (any_mapped f p xs)

-- the element is one of these
abbrev pub Among : {K : Type 0} → List K → K → Type 0
Among [] k = ⊥
Among (x ∷ xs) k = (x ≡ k) ⊎ Among xs k

all_among : {K : Type 0} (P : K → Type 0) (xs : List K) (k : K) → AllByRecursion P xs → Among xs k → P k
all_among P [] k h a = elim a [ ]
all_among P (x ∷ xs) k h (inl e) = subst P e h.0
all_among P (x ∷ xs) k h (inr a) = all_among P xs k h.1 a

not_both_less : (o r : Ordering) → o ≡ ordering_reverse r → o ≡ Less → r ≡ Less → ⊥
not_both_less o Less e f h = cc
not_both_less o Equal e f h = cc
not_both_less o Greater e f h = cc

module _ {K : Type 0} (c : K → K → Ordering) (o : IsTotalOrder c) where
  same_first : (x y : K) (xs ys : List K) → AllByRecursion (λ k. c x k ≡ Less) xs → AllByRecursion (λ k. c y k ≡ Less) ys → Among (y ∷ ys) x → Among (x ∷ xs) y → x ≡ y
  same_first x y xs ys f g (inl e) b = sym e
  same_first x y xs ys f g (inr a) (inl e) = e
  same_first x y xs ys f g (inr a) (inr b) = absurd (not_both_less (c y x) (c x y) (o.antisymm y x) (all_among (λ k. c y k ≡ Less) ys x g a) (all_among (λ k. c x k ≡ Less) xs y f b))

  behind : (x y : K) (xs ys : List K) → x ≡ y → AllByRecursion (λ k. c x k ≡ Less) xs → (k : K) → Among xs k → Among (y ∷ ys) k → Among ys k
  behind x y xs ys e f k a (inr b) = b
  behind x y xs ys e f k a (inl t) =
      let less : c x x ≡ Less = subst (λ (z : K). c x z ≡ Less) (sym t ∙ sym e) (all_among (λ z. c x z ≡ Less) xs k f a) in
      absurd (not_both_less (c x x) (c x x) (o.antisymm x x) less less)

  -- two that have the same elements are one
  pub rising_one : (xs ys : List K) → IsStrictlySortedBy c xs → IsStrictlySortedBy c ys → ((k : K) → Among xs k → Among ys k) → ((k : K) → Among ys k → Among xs k) → xs ≡ ys
  unfolding IsStrictlySortedBy
  rising_one [] [] f g to from = refl
  rising_one [] (y ∷ ys) f g to from = absurd (elim (from y (inl refl)) [ ])
  rising_one (x ∷ xs) [] f g to from = absurd (elim (to x (inl refl)) [ ])
  rising_one (x ∷ xs) (y ∷ ys) f g to from =
      let e : x ≡ y = same_first x y xs ys f.0 g.0 (to x (inl refl)) (from y (inl refl)) in
      let rest : xs ≡ ys = rising_one xs ys f.1 g.1 (λ k a. behind x y xs ys e f.0 k a (to k (inr a))) (λ k a. behind y x ys xs (sym e) g.0 k a (from k (inr a))) in
      ap (λ z. z ∷ xs) e ∙ ap (λ zs. y ∷ zs) rest

-- a test that passes just one element tells whether it is among them
or_true : (b : Bool) → (b || true) ≡ true
or_true true = refl
or_true false = refl

module _ {K : Type 0} (p : K → Bool) (k : K) where
  pub among_any : p k ≡ true → (xs : List K) → Among xs k → list_any p xs ≡ true
  among_any h [] a = elim a [ ]
  among_any h (x ∷ xs) (inl e) = ap (λ z. p z || list_any p xs) e ∙ ap (λ b. b || list_any p xs) h
  among_any h (x ∷ xs) (inr a) = ap (λ b. p x || b) (among_any h xs a) ∙ or_true (p x)

  pub any_among : ((x : K) → p x ≡ true → x ≡ k) → (xs : List K) → list_any p xs ≡ true → Among xs k
  any_among h [] t = absurd (cc)
  any_among h (x ∷ xs) t = by (p x) (λ e. h x e) (λ s. any_among h xs s) t
    where
      by : (b : Bool) → (b ≡ true → x ≡ k) → (list_any p xs ≡ true → Among xs k) → (b || list_any p xs) ≡ true → Among (x ∷ xs) k
      by true e rest s = inl (e refl)
      by false e rest s = inr (rest s)
