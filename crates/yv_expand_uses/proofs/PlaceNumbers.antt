-- Numbers of each place, and places of numbers.
use Rattle.std.proofs.Common.{◌≡◌, ℕ, zero, suc, ◌+◌, ◌<◌, ◌≤◌, ◌==◌, inl, inr, Bool, true, false, cond, if◌then◌else◌, List, [], ◌∷◌, ◌++◌, length, take, drop, map, set, replicate, get_or, refl, sym, ◌∙◌, ap, arith, Option, Some, None, append_assoc, length-set, length-append, length-take-le, below_more}
use Rattle.std.specs.List.{slice_get, position_from}
use Rattle.std.specs.Option.{option_map}
use Rattle.std.proofs.lemmas.Bool.{cases_eq, cases_lt, ne_eqb, eq-eqb}
use Rattle.std.proofs.lemmas.List.{take_more, drop_all, append-nil, get_or-set_same, get_or-set_other, get_or-replicate, get_or_past, get_or-append-add}
use Rattle.std.proofs.Math.ListN.{get_or-append}
use Rattle.std.proofs.lemmas.Option.{same_Some, slice_get-map, slice_get_within, slice_get_past, get_or_from_slice_get}
use Rattle.yv_link_scopes.specs.Rows.{Row}
use Rattle.yv_base_tables.specs.Families.{by_place, is_place, numbers_at, numbers_from}
use Rattle.yv_expand_uses.specs.AugmentOrder.{gives, giving_from, giving_places, place_before}
use Rattle.yv_expand_uses.specs.InnerCounts.{count_at, count_more}
use Rattle.yv_expand_uses.proofs.StatementLists.{rest_of}

abbrev one_if : Bool → ℕ
one_if b = if b then 1 else 0

-- one number more
pub one_longer : (p n : ℕ) (xs : List (Option ℕ)) (y : Option ℕ) → length (numbers_from p n (xs ++ y ∷ [])) ≡ length (numbers_from p n xs) + one_if (is_place p y)
one_longer p n [] y = by (is_place p y)
  where
    by : (b : Bool) → length (if b then n ∷ [] else []) ≡ 0 + one_if b
    by true = refl
    by false = refl
one_longer p n (x ∷ xs) y = by (is_place p x) (one_longer p (n + 1) xs y)
  where
    by : (b : Bool) → length (numbers_from p (n + 1) (xs ++ y ∷ [])) ≡ length (numbers_from p (n + 1) xs) + one_if (is_place p y)
        → length (if b then n ∷ numbers_from p (n + 1) (xs ++ y ∷ []) else numbers_from p (n + 1) (xs ++ y ∷ []))
        ≡ length (if b then n ∷ numbers_from p (n + 1) xs else numbers_from p (n + 1) xs) + one_if (is_place p y)
    by true e = omega (arith, e)
    by false e = e

pub taken_longer : (p : ℕ) (xs : List (Option ℕ)) (i : ℕ) (y : Option ℕ) → slice_get xs i ≡ Some y
    → length (numbers_at (take (i + 1) xs) p) ≡ length (numbers_at (take i xs) p) + one_if (is_place p y)
taken_longer p xs i y at =
    ap (λ l. length (numbers_from p 0 l)) (take_more xs i y (slice_get_within xs i y at) ∙ ap (λ z. take i xs ++ z ∷ []) (get_or_from_slice_get xs i y y at))
    ∙ one_longer p 0 (take i xs) y

-- a number of a place is among those of the place
pub before_within : (p n i : ℕ) (xs : List (Option ℕ)) → slice_get xs i ≡ Some (Some p) → length (numbers_from p n (take i xs)) < length (numbers_from p n xs)
before_within p n i [] at = absurd (let bad : None ≡ Some (Some p) = at in cc)
before_within p n zero (x ∷ xs) at =
    let same : is_place p x ≡ true = ap (is_place p) (same_Some x (Some p) at) ∙ eq-eqb p p refl in
    rw same (omega arith)
before_within p n (suc i) (x ∷ xs) at = by (is_place p x) (before_within p (n + 1) i xs at)
  where
    by : (b : Bool) → length (numbers_from p (n + 1) (take i xs)) < length (numbers_from p (n + 1) xs)
        → length (if b then n ∷ numbers_from p (n + 1) (take i xs) else numbers_from p (n + 1) (take i xs))
        < length (if b then n ∷ numbers_from p (n + 1) xs else numbers_from p (n + 1) xs)
    by true l = omega (arith, l)
    by false l = l

-- no number has a place past all
pub none_past : (bound p n : ℕ) (xs : List (Option ℕ)) → ((a q : ℕ) → slice_get xs a ≡ Some (Some q) → q < bound) → bound ≤ p → numbers_from p n xs ≡ []
none_past bound p n [] within past = refl
none_past bound p n (None ∷ xs) within past = none_past bound p (n + 1) xs (λ a q at. within (suc a) q at) past
none_past bound p n (Some q ∷ xs) within past =
    let lt : q < bound = within 0 q refl in
    let other : (q == p) ≡ false = ne_eqb q p (λ e. omega (arith, e, lt, past)) in
    rw other (none_past bound p (n + 1) xs (λ a r at. within (suc a) r at) past)

-- the counts of the numbers so far
pub record Counts (places : List (Option ℕ)) (i : ℕ) (counts : List ℕ) : Type 0 where
  pub each : length counts ≡ length places
  pub told : (k : ℕ) → k < length places → get_or counts k 0 ≡ length (numbers_at (take i places) k)

pub counts_none : (places : List (Option ℕ)) (counts : List ℕ) → counts ≡ replicate (length places) 0 → length counts ≡ length places → Counts places 0 counts
counts_none places counts is long = record {
  each = long;
  told = λ k lt. ap (λ l. get_or l k 0) is ∙ get_or-replicate (length places) k 0 0 lt;
}

pub counts_more : (places : List (Option ℕ)) (i : ℕ) (y : Option ℕ) (old new : List ℕ) → slice_get places i ≡ Some y → ((k : ℕ) → y ≡ Some k → k < length old)
    → new ≡ count_more old y → Counts places i old → Counts places (i + 1) new
counts_more places i None old new at within is c = record {
  each = ap length is ∙ c.each;
  told = λ k lt. ap (λ l. get_or l k 0) is ∙ c.told k lt ∙ (let e = taken_longer k places i None at in omega (arith, e));
}
counts_more places i (Some p) old new at within is c = record {
  each = ap length is ∙ length-set old p (get_or old p 0 + 1) ∙ c.each;
  told = λ k lt. ap (λ l. get_or l k 0) is ∙ by k lt;
}
  where
    by : (k : ℕ) → k < length places → get_or (set old p (get_or old p 0 + 1)) k 0 ≡ length (numbers_at (take (i + 1) places) k)
    by k lt = elim (cases_eq k p) [
      | inl same ↦
          let e : length (numbers_at (take (i + 1) places) k) ≡ length (numbers_at (take i places) k) + one_if (p == k) = taken_longer k places i (Some p) at in
          let one : one_if (p == k) ≡ 1 = ap one_if (eq-eqb p k (sym same)) in
          let here : get_or (set old p (get_or old p 0 + 1)) k 0 ≡ get_or old p 0 + 1 =
          ap (λ m. get_or (set old p (get_or old p 0 + 1)) m 0) same ∙ get_or-set_same old p (get_or old p 0 + 1) 0 (within p refl) in
          let was : get_or old p 0 ≡ length (numbers_at (take i places) k) = ap (λ m. get_or old m 0) (sym same) ∙ c.told k lt in
          omega (arith, e, one, here, was)
      | inr other ↦
          let e : length (numbers_at (take (i + 1) places) k) ≡ length (numbers_at (take i places) k) + one_if (p == k) = taken_longer k places i (Some p) at in
          let none : one_if (p == k) ≡ 0 = ap one_if (ne_eqb p k (λ h. other (sym h))) in
          let there : get_or (set old p (get_or old p 0 + 1)) k 0 ≡ get_or old k 0 = get_or-set_other old p k (get_or old p 0 + 1) 0 other in
          let was = c.told k lt in
          omega (arith, e, none, there, was)
    ]

-- no more numbers have a place than there are
numbers_within : (p n : ℕ) (xs : List (Option ℕ)) → length (numbers_from p n xs) ≤ length xs
numbers_within p n [] = omega arith
numbers_within p n (x ∷ xs) = by (is_place p x) (numbers_within p (n + 1) xs)
  where
    by : (b : Bool) → length (numbers_from p (n + 1) xs) ≤ length xs
        → length (if b then n ∷ numbers_from p (n + 1) xs else numbers_from p (n + 1) xs) ≤ length (x ∷ xs)
    by true l = omega (arith, l)
    by false l = omega (arith, l)

-- a count is at most how many numbers were told
pub count_within : (places : List (Option ℕ)) (i k : ℕ) (counts : List ℕ) → i ≤ length places → k < length places → Counts places i counts → get_or counts k 0 ≤ i
count_within places i k counts le lt c =
    let e = c.told k lt in
    let l = numbers_within k 0 (take i places) in
    let m : length (take i places) ≡ i = length-take-le i places le in
    omega (arith, e, l, m)

-- the number of a place that is told next
pub next_told : (places : List (Option ℕ)) (i : ℕ) (y : Option ℕ) (counts : List ℕ) (n : ℕ) → slice_get places i ≡ Some y → ((k : ℕ) → y ≡ Some k → k < length places)
    → n ≡ count_at counts y → Counts places i counts → n ≡ place_before places i (slice_get places i)
next_told places i None counts n at within is c = is ∙ ap (place_before places i) (sym at)
next_told places i (Some k) counts n at within is c = is ∙ c.told k (within k refl) ∙ ap (place_before places i) (sym at)

-- places of numbers in a list, from its last to its first
pub record Placed (numbers : List ℕ) (count left : ℕ) (places : List (Option ℕ)) : Type 0 where
  pub within : left ≤ length numbers
  pub each : length places ≡ count
  pub told : (a : ℕ) → a < count → get_or places a None ≡ position_from (λ n. n == a) left (drop left numbers)

pub placed_none : (numbers : List ℕ) (count : ℕ) (places : List (Option ℕ)) → places ≡ replicate count None → length places ≡ count → Placed numbers count (length numbers) places
placed_none numbers count places is long = record {
  within = omega arith;
  each = long;
  told = λ a lt. ap (λ l. get_or l a None) is ∙ get_or-replicate count a None None lt ∙ ap (position_from (λ n. n == a) (length numbers)) (sym (drop_all (length numbers) numbers (omega arith)));
}

-- one number more
pub placed_set : (numbers : List ℕ) (count left i b : ℕ) (old new : List (Option ℕ)) → left ≡ i + 1 → slice_get numbers i ≡ Some b → b < length old → new ≡ set old b (Some i)
    → Placed numbers count left old → Placed numbers count i new
placed_set numbers count left i b old new next at lt is p = record {
  within = omega (arith, slice_get_within numbers i b at);
  each = ap length is ∙ length-set old b (Some i) ∙ p.each;
  told = λ a h. ap (λ l. get_or l a None) is ∙ by a h ∙ ap (position_from (λ n. n == a) i) (sym (rest_of numbers i b at));
}
  where
    by : (a : ℕ) → a < count → get_or (set old b (Some i)) a None ≡ cond (b == a) (Some i) (position_from (λ n. n == a) (i + 1) (drop (i + 1) numbers))
    by a h = elim (cases_eq a b) [
      | inl same ↦ ap (λ m. get_or (set old b (Some i)) m None) same ∙ get_or-set_same old b (Some i) None lt
          ∙ ap (λ (t : Bool). cond t (Some i) (position_from (λ n. n == a) (i + 1) (drop (i + 1) numbers))) (sym (eq-eqb b a (sym same)))
      | inr other ↦ get_or-set_other old b a (Some i) None other ∙ p.told a h
          ∙ ap (λ m. position_from (λ n. n == a) m (drop m numbers)) next
          ∙ ap (λ (t : Bool). cond t (Some i) (position_from (λ n. n == a) (i + 1) (drop (i + 1) numbers))) (sym (ne_eqb b a (λ e. other (sym e))))
    ]

pub placed_past : (numbers : List ℕ) (count left i b : ℕ) (places : List (Option ℕ)) → left ≡ i + 1 → slice_get numbers i ≡ Some b → length places ≤ b
    → Placed numbers count left places → Placed numbers count i places
placed_past numbers count left i b places next at past p = record {
  within = omega (arith, slice_get_within numbers i b at);
  each = p.each;
  told = λ a h.
      let other : (b == a) ≡ false = ne_eqb b a (λ e. omega (arith, e, h, past, p.each)) in
      p.told a h ∙ ap (λ m. position_from (λ n. n == a) m (drop m numbers)) next
      ∙ ap (λ (t : Bool). cond t (Some i) (position_from (λ n. n == a) (i + 1) (drop (i + 1) numbers))) (sym other)
      ∙ ap (position_from (λ n. n == a) i) (sym (rest_of numbers i b at));
}

-- a place in a list is within it
pub place_within : (a i : ℕ) (numbers : List ℕ) (j : ℕ) → position_from (λ n. n == a) i numbers ≡ Some j → j < i + length numbers
place_within a i [] j e = absurd (let bad : None ≡ Some j = e in cc)
place_within a i (b ∷ bs) j e = by (b == a) e (place_within a (i + 1) bs j)
  where
    by : (t : Bool) → cond t (Some i) (position_from (λ n. n == a) (i + 1) bs) ≡ Some j → (position_from (λ n. n == a) (i + 1) bs ≡ Some j → j < i + 1 + length bs)
        → j < i + length (b ∷ bs)
    by true h later = let same : i ≡ j = same_Some i j h in omega (arith, same)
    by false h later = let l = later h in omega (arith, l)

-- the blocks in which augments stand that give something
pub giving_more : (rows : List Row) (i : ℕ) (r : Row) (o : Option ℕ) (old new : List (Option ℕ)) → slice_get rows i ≡ Some r → o ≡ (if gives rows i r then Some r.scope else None)
    → new ≡ old ++ o ∷ [] → old ++ giving_from rows i (drop i rows) ≡ giving_from rows 0 rows → new ++ giving_from rows (i + 1) (drop (i + 1) rows) ≡ giving_from rows 0 rows
giving_more rows i r o old new at is now before =
    ap (λ l. l ++ giving_from rows (i + 1) (drop (i + 1) rows)) now
    ∙ append_assoc old (o ∷ []) (giving_from rows (i + 1) (drop (i + 1) rows))
    ∙ ap (λ z. old ++ z ∷ giving_from rows (i + 1) (drop (i + 1) rows)) is
    ∙ ap (λ l. old ++ giving_from rows i l) (sym (rest_of rows i r at))
    ∙ before

pub giving_all : (rows : List Row) (i : ℕ) (all : List (Option ℕ)) → length rows ≤ i → all ++ giving_from rows i (drop i rows) ≡ giving_from rows 0 rows → all ≡ giving_from rows 0 rows
giving_all rows i all past h = sym (append-nil all) ∙ ap (λ l. all ++ giving_from rows i l) (sym (drop_all i rows past)) ∙ h

giving_at : (rows : List Row) (n i p : ℕ) (rs : List Row) → slice_get (giving_from rows n rs) i ≡ Some (Some p) → (r : Row) × (slice_get rs i ≡ Some r) × (r.scope ≡ p)
giving_at rows n i p [] at = absurd (let bad : None ≡ Some (Some p) = at in cc)
giving_at rows n zero p (r ∷ rs) at = (r, refl, by (gives rows n r) (same_Some _ _ at))
  where
    by : (b : Bool) → (if b then Some r.scope else None) ≡ Some p → r.scope ≡ p
    by true e = same_Some r.scope p e
    by false e = absurd (let bad : None ≡ Some p = e in cc)
giving_at rows n (suc i) p (r ∷ rs) at = giving_at rows (n + 1) i p rs at

giving_count : (rows : List Row) (n : ℕ) (rs : List Row) → length (giving_from rows n rs) ≡ length rs
giving_count rows n [] = refl
giving_count rows n (r ∷ rs) = ap suc (giving_count rows (n + 1) rs)

-- each stands in a block of a statement
pub giving_within : (rows : List Row) → ((k : ℕ) (r : Row) → slice_get rows k ≡ Some r → r.scope < length rows) → (a p : ℕ)
    → slice_get (giving_places rows) a ≡ Some (Some p) → p < length rows
unfolding giving_places
giving_within rows nested a p at =
    let (r, there, is) = giving_at rows 0 a p rows at in
    let l = nested a r there in omega (arith, l, is)

-- as does each statement that passes
pub passing_within : (passes : Row → Bool) (rows : List Row) → ((k : ℕ) (r : Row) → slice_get rows k ≡ Some r → r.scope < length rows) → (a p : ℕ)
    → slice_get (map (λ (r : Row). if passes r then Some r.scope else None) rows) a ≡ Some (Some p) → p < length rows
passing_within passes rows nested a p at = by (slice_get rows a) refl (sym (slice_get-map (λ (r : Row). if passes r then Some r.scope else None) rows a) ∙ at)
  where
    one : (r : Row) (b : Bool) → (if b then Some r.scope else None) ≡ Some p → r.scope ≡ p
    one r true e = same_Some r.scope p e
    one r false e = absurd (let bad : None ≡ Some p = e in cc)

    by : (o : Option Row) → slice_get rows a ≡ o → option_map (λ (r : Row). if passes r then Some r.scope else None) o ≡ Some (Some p) → p < length rows
    by None there e = absurd (let bad : None ≡ Some (Some p) = e in cc)
    by (Some r) there e = (let l = nested a r there in let is = one r (passes r) (same_Some _ _ e) in omega (arith, l, is))

pub giving_long : (rows : List Row) → length (giving_places rows) ≡ length rows
unfolding giving_places
giving_long rows = giving_count rows 0 rows

-- there are as many lists as places
by_place_long : (places : List (Option ℕ)) (n : ℕ) → length (by_place places n) ≡ n
by_place_long places zero = refl
by_place_long places (suc n) =
    let long : length (by_place places n ++ numbers_at places n ∷ []) ≡ length (by_place places n) + 1 = length-append (by_place places n) (numbers_at places n ∷ []) in
    let before : length (by_place places n) ≡ n = by_place_long places n in
    omega (arith, long, before)

pub by_place_past : (places : List (Option ℕ)) (n k : ℕ) → n ≤ k → get_or (by_place places n) k [] ≡ []
by_place_past places n k le = let long = by_place_long places n in get_or_past (by_place places n) k [] (omega (arith, long, le))

-- one more ordinal
pub told_more : (places : List (Option ℕ)) (i n : ℕ) (old new : List ℕ) → length old ≡ i → new ≡ old ++ n ∷ [] → n ≡ place_before places i (slice_get places i)
    → ((a : ℕ) → a < i → get_or old a 0 ≡ place_before places a (slice_get places a))
    → (a : ℕ) → a < i + 1 → get_or new a 0 ≡ place_before places a (slice_get places a)
told_more places i n old new long is here before =
    below_more (λ a. get_or new a 0 ≡ place_before places a (slice_get places a)) i
    (λ a lt. ap (λ l. get_or l a 0) is ∙ get_or-append old (n ∷ []) 0 a (omega (arith, lt, long)) ∙ before a lt)
    (ap (λ l. get_or l i 0) is ∙ ap (λ m. get_or (old ++ n ∷ []) m 0) (omega (arith, long)) ∙ get_or-append-add old (n ∷ []) 0 0 ∙ here)

pub told_all : (places : List (Option ℕ)) (i : ℕ) (all : List ℕ) → length places ≤ i → length all ≡ i
    → ((a : ℕ) → a < i → get_or all a 0 ≡ place_before places a (slice_get places a)) → (a : ℕ) → get_or all a 0 ≡ place_before places a (slice_get places a)
told_all places i all past long told a = elim (cases_lt a i) [
  | inl lt ↦ told a lt
  | inr le ↦ get_or_past all a 0 (omega (arith, le, long)) ∙ ap (place_before places a) (sym (slice_get_past places a (omega (arith, le, past))))
]
