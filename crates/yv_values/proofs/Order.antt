-- Texts in the order of their bytes, and the run of those that are one text.
use Rattle.std.proofs.Common.{◌≡◌, ℕ, zero, suc, ◌+◌, ◌<◌, ◌≤◌, Bool, true, false, not, ◌||◌, cond, List, [], ◌∷◌, map, filter, take, drop, length, get_or, Ordering, eqb, refl, sym, ◌∙◌, ap, subst, arith, Bor, Option, Some, None, is_some, IfSome, slice_get}
use Rattle.std.specs.Option.{option_copied}
use Rattle.std.specs.Cmp.Lexicographic.{slice_cmp, texts_ties}
use Rattle.std.specs.List.{AllWithin, list_any}
use Rattle.std.specs.List.Sorted.{IsSortedBy, IsNonDecreasingBy, IsPartitionedBy}
use Rattle.std.specs.Ordering.{is_lt, is_eq, nat_cmp, ordering_index, ordering_reverse}
use Rattle.std.specs.Str.{bytes_eq}
use Rattle.std.specs.declared.cmp.Ordering.TheVariants.{Less, Equal, Greater}
use Rattle.std.proofs.lemmas.Bool.Decides.{nat_tests}
use Rattle.std.proofs.lemmas.Cmp.{nat_list_cmp_total}
use Rattle.std.proofs.lemmas.List.{get_or-drop, length-drop}
use Rattle.std.proofs.lemmas.Slice.Eq.{bytes_eq-Decides}
use Rattle.std.proofs.lemmas.List.Sorted.{ranks_by, sorted_far, searchable_from_sorted, IsNonDecreasingBy-drop}
use Rattle.yv_values.specs.InnerNames.{is_below, NoneBelow, Ascends}

pub back : (x y : List ℕ) → slice_cmp nat_cmp x y ≡ ordering_reverse (slice_cmp nat_cmp y x)
back x y = nat_list_cmp_total.antisymm x y

less_isnt_equal : (o : Ordering) → is_lt o ≡ true → is_eq o ≡ false
less_isnt_equal Less h = refl
less_isnt_equal Equal h = absurd (cc)
less_isnt_equal Greater h = absurd (cc)

greater_isnt_equal : (o r : Ordering) → o ≡ ordering_reverse r → is_lt r ≡ true → is_eq o ≡ false
greater_isnt_equal o Less e h = rw e refl
greater_isnt_equal o Equal e h = absurd (cc)
greater_isnt_equal o Greater e h = absurd (cc)

neither_is_equal : (o r : Ordering) → o ≡ ordering_reverse r → is_lt o ≡ false → is_lt r ≡ false → is_eq o ≡ true
neither_is_equal o Less e f g = absurd (cc)
neither_is_equal o Equal e f g = rw e refl
neither_is_equal o Greater e f g = let t : true ≡ false = sym (ap is_lt e) ∙ f in absurd (cc)

pub apart_below : (x w : List ℕ) → is_below x w ≡ true → bytes_eq x w ≡ false
apart_below x w h = texts_ties x w ∙ less_isnt_equal (slice_cmp nat_cmp x w) h

pub apart_above : (x w : List ℕ) → is_below w x ≡ true → bytes_eq x w ≡ false
apart_above x w h = texts_ties x w ∙ greater_isnt_equal (slice_cmp nat_cmp x w) (slice_cmp nat_cmp w x) (back x w) h

pub same_between : (x w : List ℕ) → is_below x w ≡ false → is_below w x ≡ false → bytes_eq x w ≡ true
same_between x w f g = texts_ties x w ∙ neither_is_equal (slice_cmp nat_cmp x w) (slice_cmp nat_cmp w x) (back x w) f g

not_true : (b : Bool) → not b ≡ true → b ≡ false
not_true true h = absurd (cc)
not_true false h = refl

not_false : (b : Bool) → not b ≡ false → b ≡ true
not_false true h = refl
not_false false h = absurd (cc)

-- a search's tests fall from true to false where the answers of the comparison rise
lower_first : (o r : Ordering) → ordering_index o ≤ ordering_index r → is_lt r ≡ true → is_lt o ≡ true
lower_first Less r h g = refl
lower_first Equal Less h g = absurd (omega arith)
lower_first Equal Equal h g = absurd (cc)
lower_first Equal Greater h g = absurd (cc)
lower_first Greater Less h g = absurd (omega arith)
lower_first Greater Equal h g = absurd (cc)
lower_first Greater Greater h g = absurd (cc)

upto_first : (o r o' r' : Ordering) → o' ≡ ordering_reverse o → r' ≡ ordering_reverse r → ordering_index o ≤ ordering_index r → not (is_lt r') ≡ true → not (is_lt o') ≡ true
upto_first Less r o' r' e f h g = rw e refl
upto_first Equal r o' r' e f h g = rw e refl
upto_first Greater Less o' r' e f h g = absurd (omega arith)
upto_first Greater Equal o' r' e f h g = absurd (omega arith)
upto_first Greater Greater o' r' e f h g = let t : false ≡ true = sym (ap (λ (a : Ordering). not (is_lt a)) f) ∙ g in absurd (cc)

filter_behind : {X : Type 0} (p : X → Bool) (xs : List X) (i : ℕ) → ((k : ℕ) (d : X) → k < i → k < length xs → p (get_or xs k d) ≡ false) → filter p (drop i xs) ≡ filter p xs
filter_behind p [] zero h = refl
filter_behind p [] (suc i) h = refl
filter_behind p (x ∷ xs) zero h = refl
filter_behind p (x ∷ xs) (suc i) h =
    rw (h zero x (omega arith) (omega arith)) (filter_behind p xs i (λ k d b in'. h (suc k) d (omega arith) (omega arith)))

filter_front : {X : Type 0} (p : X → Bool) (xs : List X) (n : ℕ) → ((k : ℕ) (d : X) → k < n → k < length xs → p (get_or xs k d) ≡ true) → ((k : ℕ) (d : X) → n ≤ k → k < length xs → p (get_or xs k d) ≡ false) → take n xs ≡ filter p xs
filter_front p [] zero h g = refl
filter_front p [] (suc n) h g = refl
filter_front p (x ∷ xs) zero h g =
    rw (g zero x (omega arith) (omega arith)) (filter_front p xs zero (λ k d b in'. absurd (omega arith)) (λ k d b in'. g (suc k) d (omega arith) (omega arith)))
filter_front p (x ∷ xs) (suc n) h g =
    rw (h zero x (omega arith) (omega arith)) (
    ap (λ ys. x ∷ ys) (filter_front p xs n (λ k d b in'. h (suc k) d (omega arith) (omega arith)) (λ k d b in'. g (suc k) d (omega arith) (omega arith)))
    )

-- elements whose texts, by f, are in order, and a text
module _ {X : Type 0} (f : X → List ℕ) (xs : List X) (up : IsSortedBy (λ a b. is_lt (slice_cmp nat_cmp (f a) (f b))) xs) (w : List ℕ) where
  rises : IsNonDecreasingBy (λ y. ordering_index (slice_cmp nat_cmp (f y) w)) xs
  rises = searchable_from_sorted nat_list_cmp_total f xs w up

  pub below_parted : IsPartitionedBy (λ y. is_below (f y) w) xs
  below_parted i j d le b h = lower_first (slice_cmp nat_cmp (f (get_or xs i d)) w) (slice_cmp nat_cmp (f (get_or xs j d)) w) (rises i j d le b) h

  pub upto_parted : (low : ℕ) → IsPartitionedBy (λ y. not (is_below w (f y))) (drop low xs)
  upto_parted low i j d le b h =
      let x = f (get_or (drop low xs) i d) in
      let y = f (get_or (drop low xs) j d) in
      upto_first (slice_cmp nat_cmp x w) (slice_cmp nat_cmp y w) (slice_cmp nat_cmp w x) (slice_cmp nat_cmp w y) (back w x) (back w y) (IsNonDecreasingBy-drop (λ z. ordering_index (slice_cmp nat_cmp (f z) w)) low xs rises i j d le b) h

  -- those that are the text, where `low` are below it and `count` behind them aren't above it
  pub run_is : (low count : ℕ) → AllWithin (λ y. is_below (f y) w ≡ true) xs 0 low → AllWithin (λ y. is_below (f y) w ≡ false) xs low (length xs) → low ≤ length xs
      → AllWithin (λ y. not (is_below w (f y)) ≡ true) (drop low xs) 0 count → AllWithin (λ y. not (is_below w (f y)) ≡ false) (drop low xs) count (length (drop low xs))
      → take count (drop low xs) ≡ filter (λ y. bytes_eq (f y) w) xs
  run_is low count lower upper bound front behind =
      let same : (k : ℕ) (d : X) → k < count → k < length (drop low xs) → bytes_eq (f (get_or (drop low xs) k d)) w ≡ true = λ k d b in'.
      same_between (f (get_or (drop low xs) k d)) w (rw (get_or-drop low xs k d) (upper (low + k) d (omega arith) (omega (arith, length-drop low xs, in')))) (not_true _ (front k d (omega arith) b)) in
      let above : (k : ℕ) (d : X) → count ≤ k → k < length (drop low xs) → bytes_eq (f (get_or (drop low xs) k d)) w ≡ false = λ k d b in'. apart_above (f (get_or (drop low xs) k d)) w (not_false _ (behind k d b in')) in
      filter_front (λ y. bytes_eq (f y) w) (drop low xs) count same above ∙ filter_behind (λ y. bytes_eq (f y) w) xs low (λ k d b in'. apart_below (f (get_or xs k d)) w (lower k d (omega arith) b))

none_below : (f : List ℕ) {X : Type 0} (g : X → List ℕ) (ys : List X) → ((j : ℕ) (d : X) → j < length ys → is_below (g (get_or ys j d)) f ≡ false) → NoneBelow f (map g ys)
none_below f g [] h = tt
none_below f g (y ∷ ys) h = (h zero y (omega arith), none_below f g ys (λ j d b. h (suc j) d (omega arith)))

ascends_far : {X : Type 0} (f : X → List ℕ) (xs : List X) → ((i j : ℕ) (d : X) → i ≤ j → j < length xs → is_below (f (get_or xs j d)) (f (get_or xs i d)) ≡ false) → Ascends (map f xs)
ascends_far f [] far = tt
ascends_far f (x ∷ xs) far = (none_below (f x) f xs (λ j d b. far zero (suc j) d (omega arith) (omega arith)), ascends_far f xs (λ i j d le b. far (suc i) (suc j) d (omega arith) (omega arith)))

-- what a sort ensures, text by text
pub ascends : {X : Type 0} (f : X → List ℕ) (xs : List X) → IsSortedBy (λ a b. is_lt (slice_cmp nat_cmp (f a) (f b))) xs → Ascends (map f xs)
ascends f xs up = ascends_far f xs (sorted_far (λ a b. is_lt (slice_cmp nat_cmp (f a) (f b))) (ranks_by nat_list_cmp_total f) xs up)

pub filter_mapped : {X Y : Type 0} (f : X → Y) (p : Y → Bool) (xs : List X) → map f (filter (λ x. p (f x)) xs) ≡ filter p (map f xs)
filter_mapped f p [] = refl
filter_mapped f p (x ∷ xs) = by (p (f x)) (filter_mapped f p xs)
  where
    by : (b : Bool) → map f (filter (λ y. p (f y)) xs) ≡ filter p (map f xs) → map f (cond b (x ∷ filter (λ y. p (f y)) xs) (filter (λ y. p (f y)) xs)) ≡ cond b (f x ∷ filter p (map f xs)) (filter p (map f xs))
    by true h = ap (λ ys. f x ∷ ys) h
    by false h = h

is_full : {X : Type 0} (g : X → List ℕ) (ys : List X) (z : List ℕ) (zs : List (List ℕ)) → map g ys ≡ z ∷ zs → not (eqb (length ys) 0) ≡ true
is_full g [] z zs e = absurd (cc)
is_full g (y ∷ ys) z zs e = grind (arith, nat_tests)

-- a list has an element that passes where its filter is not empty
pub any_filtered : {X : Type 0} (p : List ℕ → Bool) (xs : List (List ℕ)) (g : X → List ℕ) (ys : List X) → map g ys ≡ filter p xs → not (eqb (length ys) 0) ≡ list_any p xs
any_filtered p [] g [] e = refl
any_filtered p [] g (y ∷ ys) e = absurd (cc)
any_filtered p (x ∷ xs) g ys e = by (p x) e (λ h. any_filtered p xs g ys h)
  where
    by : (b : Bool) → map g ys ≡ cond b (x ∷ filter p xs) (filter p xs) → (map g ys ≡ filter p xs → not (eqb (length ys) 0) ≡ list_any p xs) → not (eqb (length ys) 0) ≡ (b || list_any p xs)
    by true h later = is_full g ys x (filter p xs) h
    by false h later = later h

passing : (p : List ℕ → Bool) (xs : List (List ℕ)) (z : List ℕ) (zs : List (List ℕ)) → filter p xs ≡ z ∷ zs → p z ≡ true
passing p [] z zs e = absurd (cc)
passing p (x ∷ xs) z zs e = by (p x) refl e (λ h. passing p xs z zs h)
  where
    by : (b : Bool) → p x ≡ b → cond b (x ∷ filter p xs) (filter p xs) ≡ z ∷ zs → (filter p xs ≡ z ∷ zs → p z ≡ true) → p z ≡ true
    by true q h later = cc
    by false q h later = later h

-- the first of what passes: there is one where an element passes, and it passes
pub first_any : {X : Type 0} (p : List ℕ → Bool) (xs : List (List ℕ)) (g : X → List ℕ) (ys : List X) (r : Option (Bor X)) → map g ys ≡ filter p xs → option_copied r ≡ slice_get ys 0 → is_some r ≡ list_any p xs
first_any p xs g [] None e h = any_filtered p xs g [] e
first_any p xs g [] (Some b) e h = absurd (cc)
first_any p xs g (y ∷ ys) None e h = absurd (cc)
first_any p xs g (y ∷ ys) (Some b) e h = sym (is_full g (y ∷ ys) (g y) (map g ys) refl) ∙ any_filtered p xs g (y ∷ ys) e

pub first_same : {X : Type 0} (t : List ℕ) (xs : List (List ℕ)) (g : X → List ℕ) (ys : List X) (r : Option (Bor X)) → map g ys ≡ filter (λ n. bytes_eq n t) xs → option_copied r ≡ slice_get ys 0 → IfSome r (λ x. g x.now ≡ t)
first_same t xs g ys None e h = tt
first_same t xs g [] (Some b) e h = absurd (cc)
first_same {X} t xs g (y ∷ ys) (Some b) e h = subst (λ (w : Option X). IfSome w (λ v. g v ≡ t)) (sym h) ((bytes_eq-Decides (g y) t).0 (passing (λ n. bytes_eq n t) xs (g y) (map g ys) (sym e)))
