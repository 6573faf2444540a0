-- Numbers among others, and sorted lists of places.
use Rattle.std.proofs.Common.{◌≡◌, ℕ, ◌-◌, ◌<◌, ◌≤◌, ◌⊎◌, inl, inr, List, [], ◌∷◌, ◌++◌, length, get_or, set, take, drop, refl, sym, ap, arith, zero, suc, length-set, get_or-set_same, get_or-set_other}
use Rattle.std.proofs.lemmas.Bool.{cases_eq}
use Rattle.yv_base_graph.specs.declared.search.State.{State}
use Rattle.yv_base_graph.specs.declared.search.State.TheVariants.{New, Done}
use Rattle.yv_base_graph.specs.InnerSearch.{Among, IsSorted, Merges, Closes}

pub among_left : (x : ℕ) (xs ys : List ℕ) → Among x xs → Among x (xs ++ ys)
among_left x [] ys h = absurd h
among_left x (y ∷ xs) ys (inl e) = inl e
among_left x (y ∷ xs) ys (inr h) = inr (among_left x xs ys h)

pub among_last : (x : ℕ) (xs : List ℕ) → Among x (xs ++ x ∷ [])
among_last x [] = inl refl
among_last x (y ∷ xs) = inr (among_last x xs)

pub among_split : (x z : ℕ) (xs : List ℕ) → Among x (xs ++ z ∷ []) → Among x xs ⊎ (x ≡ z)
among_split x z [] (inl e) = inr e
among_split x z [] (inr h) = absurd h
among_split x z (y ∷ xs) (inl e) = inl (inl e)
among_split x z (y ∷ xs) (inr h) = elim (among_split x z xs h) [ inl a ↦ inl (inr a) | inr e ↦ inr e ]

pub sorted_push : (xs : List ℕ) (z : ℕ) → IsSorted xs → ((y : ℕ) → Among y xs → y < z) → IsSorted (xs ++ z ∷ [])
sorted_push [] z s h = (λ y a. absurd a, tt)
sorted_push (x ∷ xs) z s h = (λ y a. elim (among_split y z xs a) [ inl b ↦ s.0 y b | inr e ↦ rw e (h x (inl refl)) ], sorted_push xs z s.1 (λ y a. h y (inr a)))

pub sorted_init : (xs : List ℕ) (z : ℕ) → IsSorted (xs ++ z ∷ []) → IsSorted xs
sorted_init [] z s = tt
sorted_init (x ∷ xs) z s = (λ y a. s.0 y (among_left y xs (z ∷ []) a), sorted_init xs z s.1)

pub sorted_last : (xs : List ℕ) (z : ℕ) → IsSorted (xs ++ z ∷ []) → (y : ℕ) → Among y xs → y < z
sorted_last [] z s y a = absurd a
sorted_last (x ∷ xs) z s y (inl e) = rw e (s.0 z (among_last z xs))
sorted_last (x ∷ xs) z s y (inr a) = sorted_last xs z s.1 y a

-- all but the last, and the last
split_at : (xs : List ℕ) (n : ℕ) → suc n ≡ length xs → xs ≡ take n xs ++ get_or xs n 0 ∷ []
split_at [] n h = absurd (omega arith)
split_at (x ∷ []) zero h = refl
split_at (x ∷ y ∷ xs) zero h = absurd (omega arith)
split_at (x ∷ xs) (suc n) h = ap (λ l. x ∷ l) (split_at xs n (omega arith))

pub split_last : (xs : List ℕ) → 0 < length xs → xs ≡ take (length xs - 1) xs ++ get_or xs (length xs - 1) 0 ∷ []
split_last xs h = split_at xs (length xs - 1) (omega arith)

pub among_at : (xs : List ℕ) (i : ℕ) → i < length xs → Among (get_or xs i 0) xs
among_at [] i h = elim h [ ]
among_at (x ∷ xs) zero h = inl refl
among_at (x ∷ xs) (suc i) h = inr (among_at xs i (omega arith))

-- the place of an element after a place
pub among_drop : (x : ℕ) (xs : List ℕ) (i : ℕ) → Among x (drop i xs) → (p : ℕ) × (i ≤ p) × (p < length xs) × (get_or xs p 0 ≡ x)
among_drop x [] zero a = absurd a
among_drop x [] (suc i) a = absurd a
among_drop x (y ∷ xs) zero (inl e) = (0, omega arith, omega arith, sym e)
among_drop x (y ∷ xs) zero (inr a) = let r = among_drop x xs 0 a in (suc r.0, omega arith, omega (arith, r.2), r.3)
among_drop x (y ∷ xs) (suc i) a = let r = among_drop x xs i a in (suc r.0, omega (arith, r.1), omega (arith, r.2), r.3)

pub drop_among : (xs : List ℕ) (i p : ℕ) → i ≤ p → p < length xs → Among (get_or xs p 0) (drop i xs)
drop_among [] i p h l = elim l [ ]
drop_among (x ∷ xs) zero zero h l = inl refl
drop_among (x ∷ xs) zero (suc p) h l = inr (drop_among xs 0 p (omega arith) (omega arith))
drop_among (x ∷ xs) (suc i) zero h l = absurd (omega arith)
drop_among (x ∷ xs) (suc i) (suc p) h l = drop_among xs i p (omega arith) (omega arith)

-- what a cut keeps
pub cut_among : (x : ℕ) (xs : List ℕ) (k : ℕ) → Among x (take k xs) → Among x xs
cut_among x xs zero a = absurd a
cut_among x [] (suc k) a = absurd a
cut_among x (y ∷ xs) (suc k) (inl e) = inl e
cut_among x (y ∷ xs) (suc k) (inr a) = inr (cut_among x xs k a)

cut_sorted : (xs : List ℕ) (k : ℕ) → IsSorted xs → IsSorted (take k xs)
cut_sorted xs zero s = tt
cut_sorted [] (suc k) s = tt
cut_sorted (x ∷ xs) (suc k) s = (λ y a. s.0 y (cut_among y xs k a), cut_sorted xs k s.1)

cut_kept : (x place : ℕ) (xs : List ℕ) (k : ℕ) → ((i : ℕ) → k ≤ i → i < length xs → place < get_or xs i 0) → Among x xs → x ≤ place → Among x (take k xs)
cut_kept x place [] k h a l = absurd a
cut_kept x place (y ∷ xs) zero h (inl e) l = absurd (omega (arith, h 0 (omega arith) (omega arith), e))
cut_kept x place (y ∷ xs) zero h (inr a) l = cut_kept x place xs 0 (λ i b m. h (suc i) (omega arith) (omega arith)) a l
cut_kept x place (y ∷ xs) (suc k) h (inl e) l = inl e
cut_kept x place (y ∷ xs) (suc k) h (inr a) l = inr (cut_kept x place xs k (λ i b m. h (suc i) (omega arith) (omega arith)) a l)

cut_below : (x place : ℕ) (xs : List ℕ) (k : ℕ) → IsSorted xs → k < length xs → get_or xs k 0 ≤ place → Among x (take (suc k) xs) → x ≤ place
cut_below x place [] k s h l a = elim h [ ]
cut_below x place (y ∷ xs) zero s h l (inl e) = omega arith
cut_below x place (y ∷ xs) zero s h l (inr a) = absurd a
cut_below x place (y ∷ xs) (suc k) s h l (inl e) = let m : y < get_or xs k 0 = s.0 (get_or xs k 0) (among_at xs k (omega arith)) in omega (arith, m)
cut_below x place (y ∷ xs) (suc k) s h l (inr a) = cut_below x place xs k s.1 (omega arith) l a

merged_below : (place : ℕ) (old : List ℕ) (k : ℕ) → IsSorted old → k ≤ length old → (0 < k → get_or old (k - 1) 0 ≤ place) → (h : ℕ) → Among h (take k old) → h ≤ place
merged_below place old zero s l last h a = absurd a
merged_below place old (suc k) s l last h a = cut_below h place old k s (omega arith) (let e : suc k - 1 ≡ k = omega arith in rw e at (last (omega arith))) a

pub merged : (place : ℕ) (old new : List ℕ) (k : ℕ) → IsSorted old → k ≤ length old → new ≡ take k old → ((i : ℕ) → k ≤ i → i < length old → place < get_or old i 0) → (0 < k → get_or old (k - 1) 0 ≤ place) → Merges place old new
merged place old new k s l e above last = rw e (record {
  sorted = cut_sorted old k s;
  kept = λ h a m. cut_kept h place old k above a m;
  below = λ h a. (cut_among h old k a, merged_below place old k s l last h a);
})

pub closes_none : (rank : ℕ) (old : List State) → Closes rank [] old old
closes_none rank old = record { each = refl; closed = λ x a. absurd a; kept = λ x n. refl }

pub closes_more : (rank : ℕ) (nodes more : List ℕ) (old states new : List State) (n : ℕ) → Closes rank nodes old states → n < length old → more ≡ nodes ++ n ∷ [] → new ≡ set states n (Done rank) → Closes rank more old new
closes_more rank nodes more old states new n c h e f = rw (e, f) (record {
  each = rw length-set c.each;
  closed = λ x a. elim (cases_eq x n) [
    | inl same ↦ rw same (get_or-set_same states n (Done rank) New (omega (arith, c.each)))
    | inr ne ↦ rw get_or-set_other (elim (among_split x n nodes a) [ inl b ↦ c.closed x b | inr same ↦ absurd (ne same) ])
  ];
  kept = λ x no_one. elim (cases_eq x n) [
    | inl same ↦ absurd (no_one (rw same (among_last n nodes)))
    | inr ne ↦ rw get_or-set_other (c.kept x (λ a. no_one (among_left x nodes (n ∷ []) a)))
  ];
})
