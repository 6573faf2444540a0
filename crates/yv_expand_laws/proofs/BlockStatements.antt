-- Which statements are among those of a block, and which augments of it give something.
use Rattle.std.proofs.Common.{inl, inr, ◌≡◌, ◌≢◌, ℕ, zero, suc, ◌+◌, ◌==◌, ◌&&◌, not, Bool, true, false, cond, if◌then◌else◌, List, [], ◌∷◌, ◌++◌, length, take, map, refl, sym, ◌∙◌, ap, subst, arith, eqb-true, eq-eqb, Option, Some, None}
use Rattle.std.specs.List.{Contains, filter, slice_get}
use Rattle.std.specs.Option.{option_map, unwrap_or}
use Rattle.std.proofs.lemmas.Bool.{false≢true}
use Rattle.std.proofs.lemmas.Option.{same_Some}
use Rattle.yv_link_scopes.specs.Rows.{Row}
use Rattle.yv_base_tables.specs.Families.{is_place, numbers_from}
use Rattle.yv_expand_statements.specs.StatementBlocks.{block_of, stands_in, is_at, is_augment, those, is_refine}
use Rattle.yv_expand_statements.specs.StatementBlocks as blocks
use Rattle.yv_expand_uses.specs.AugmentOrder.{augments_giving, giving_from, giving_places, gives, is_giving, is_in, item_places, ordinal, place_before}
use Rattle.yv_expand_uses.specs.AugmentOrder as augmented
use Rattle.yv_expand_uses.specs.RefineTargets.{refines_in}
use Rattle.yv_expand_uses.specs.AugmentOrder.{augments_in}
use Rattle.yv_expand_laws.proofs.FoundItems.{there_first, there_later}
use Rattle.yv_expand_laws.proofs.FrameSequences.{nothing_stands}
use Rattle.yv_expand_laws.proofs.BlockNodes.{first_or}

pub left_is : (a b : Bool) → (a && b) ≡ true → a ≡ true
left_is true b h = refl
left_is false b h = h

pub right_is : (a b : Bool) → (a && b) ≡ true → b ≡ true
right_is true b h = h
right_is false b h = absurd (false≢true h)

-- one of a filter is one, and passes
pub filter_in : (p : ℕ → Bool) (xs : List ℕ) (a : ℕ) → Contains (filter p xs) a → Contains xs a × (p a ≡ true)
filter_in p [] a h = absurd (nothing_stands a h)
filter_in p (x ∷ xs) a h = by (p x) refl h (filter_in p xs a)
  where
    by : (b : Bool) → p x ≡ b → Contains (cond b (x ∷ filter p xs) (filter p xs)) a → (Contains (filter p xs) a → Contains xs a × (p a ≡ true)) → Contains (x ∷ xs) a × (p a ≡ true)
    by false is h later = (let l = later h in (there_later x a xs l.0, l.1))
    by true is h later = elim (first_or x (filter p xs) a h) [
      | inl same ↦ (subst (λ n. Contains (x ∷ xs) n) same (there_first x xs), ap p (sym same) ∙ is)
      | inr rest ↦ (let l = later rest in (there_later x a xs l.0, l.1))
    ]

-- the first of those that pass does
pub first_passes : (p : ℕ → Bool) (xs : List ℕ) (a : ℕ) → slice_get (filter p xs) 0 ≡ Some a → p a ≡ true
first_passes p [] a h = absurd (let bad : None ≡ Some a = h in cc)
first_passes p (x ∷ xs) a h = by (p x) refl h (first_passes p xs a)
  where
    by : (b : Bool) → p x ≡ b → slice_get (cond b (x ∷ filter p xs) (filter p xs)) 0 ≡ Some a → (slice_get (filter p xs) 0 ≡ Some a → p a ≡ true) → p a ≡ true
    by true is h later = ap p (sym (same_Some x a h)) ∙ is
    by false is h later = later h

pub row_at : (test : Row → Bool) (rows : List Row) (k : ℕ) → is_at test rows k ≡ true → (r : Row) × (slice_get rows k ≡ Some r) × (test r ≡ true)
row_at test rows k h = by (slice_get rows k) refl h
  where
    by : (o : Option Row) → slice_get rows k ≡ o → unwrap_or (option_map test o) false ≡ true → (r : Row) × (slice_get rows k ≡ Some r) × (test r ≡ true)
    by None at h = absurd (false≢true h)
    by (Some r) at h = (r, at, h)

-- the statements of a block stand in it
pub numbered_in : (passes : ℕ → Row → Bool) (n : ℕ) (rs : List Row) (j : ℕ) → Contains (blocks.numbers_from passes n rs) j
    → (i : ℕ) × (r : Row) × (j ≡ n + i) × (slice_get rs i ≡ Some r) × (passes j r ≡ true)
numbered_in passes n [] j h = absurd (nothing_stands j h)
numbered_in passes n (r ∷ rs) j h = by (passes n r) refl h (λ h. later (numbered_in passes (n + 1) rs j h))
  where
    later : (i : ℕ) × (q : Row) × (j ≡ n + 1 + i) × (slice_get rs i ≡ Some q) × (passes j q ≡ true) → (i : ℕ) × (q : Row) × (j ≡ n + i) × (slice_get (r ∷ rs) i ≡ Some q) × (passes j q ≡ true)
    later x = (suc x.0, x.1, (let e = x.2 in omega (arith, e)), x.3, x.4)

    by : (b : Bool) → passes n r ≡ b → Contains (if b then n ∷ blocks.numbers_from passes (n + 1) rs else blocks.numbers_from passes (n + 1) rs) j
        → (Contains (blocks.numbers_from passes (n + 1) rs) j → (i : ℕ) × (q : Row) × (j ≡ n + i) × (slice_get (r ∷ rs) i ≡ Some q) × (passes j q ≡ true))
        → (i : ℕ) × (q : Row) × (j ≡ n + i) × (slice_get (r ∷ rs) i ≡ Some q) × (passes j q ≡ true)
    by false is h go = go h
    by true is h go = elim (first_or n (blocks.numbers_from passes (n + 1) rs) j h) [
      | inl same ↦ (0, r, (omega (arith, same)), refl, ap (λ (m : ℕ). passes m r) (sym same) ∙ is)
      | inr rest ↦ go rest
    ]

pub block_scope : (rows : List Row) (b j : ℕ) → Contains (block_of rows b) j → (r : Row) × (slice_get rows j ≡ Some r) × (r.scope ≡ b)
block_scope rows b j h =
    let x = numbered_in (stands_in b) 0 rows j h in
    (x.1, ap (slice_get rows) (let e = x.2 in let f : j ≡ x.0 = omega (arith, e) in f) ∙ x.3, eqb-true x.1.scope b (left_is (x.1.scope == b) (not (x.1.scope == j)) x.4))

-- what is told of places
giving_at : (rows : List Row) (n : ℕ) (rs : List Row) (i : ℕ) → slice_get (giving_from rows n rs) i ≡ option_map (λ r. if gives rows (n + i) r then Some r.scope else None) (slice_get rs i)
giving_at rows n [] i = refl
giving_at rows n (r ∷ rs) zero = ap (λ (m : ℕ). Some (if gives rows m r then Some r.scope else None)) (let e : n ≡ n + 0 = omega arith in e)
giving_at rows n (r ∷ rs) (suc i) =
    giving_at rows (n + 1) rs i ∙ ap (λ (m : ℕ). option_map (λ q. if gives rows m q then Some q.scope else None) (slice_get rs i)) (let e : n + 1 + i ≡ n + suc i = omega arith in e)

place_of_row : (rows : List Row) (a : ℕ) (q : Row) → slice_get rows a ≡ Some q → slice_get (giving_places rows) a ≡ Some (if gives rows a q then Some q.scope else None)
unfolding giving_places
place_of_row rows a q at =
    giving_at rows 0 rows a ∙ (ap (option_map (λ r. if gives rows (0 + a) r then Some r.scope else None)) at ∙ ap (λ (m : ℕ). Some (if gives rows m q then Some q.scope else None)) (let e : 0 + a ≡ a = omega arith in e))

-- what is no augment gives nothing
pub no_augment_gives : (rows : List Row) (u a : ℕ) (q : Row) → slice_get rows a ≡ Some q → is_augment q ≡ false → is_giving rows u a ≡ false
no_augment_gives rows u a q at no_augment =
    ap (is_in u) (place_of_row rows a q at) ∙ ap (λ (b : Bool). is_in u (Some (if b then Some q.scope else None)))
    (ap (λ (b : Bool). b && not (length (numbers_from a 0 (item_places rows)) == 0)) no_augment)

-- numbers of a place
numbers_none : (p n : ℕ) (places : List (Option ℕ)) (i : ℕ) → slice_get places i ≡ Some (Some p) → length (numbers_from p n places) ≢ 0
numbers_none p n [] i at long = absurd (let bad : None ≡ Some (Some p) = at in cc)
numbers_none p n (x ∷ xs) zero at long = by (is_place p x) (ap (is_place p) (same_Some x (Some p) at) ∙ eq-eqb p p refl) long
  where
    by : (b : Bool) → b ≡ true → length (if b then n ∷ numbers_from p (n + 1) xs else numbers_from p (n + 1) xs) ≡ 0 → ⊥
    by true h long = omega (arith, long)
    by false h long = false≢true h
numbers_none p n (x ∷ xs) (suc i) at long = by (is_place p x) long (numbers_none p (n + 1) xs i at)
  where
    by : (b : Bool) → length (if b then n ∷ numbers_from p (n + 1) xs else numbers_from p (n + 1) xs) ≡ 0 → (length (numbers_from p (n + 1) xs) ≡ 0 → ⊥) → ⊥
    by true long later = omega (arith, long)
    by false long later = later long

map_at : (f : Row → Option ℕ) (rows : List Row) (j : ℕ) (r : Row) → slice_get rows j ≡ Some r → slice_get (map f rows) j ≡ Some (f r)
map_at f [] j r at = absurd (let bad : None ≡ Some r = at in cc)
map_at f (x ∷ xs) zero r at = ap (λ y. Some (f y)) (same_Some x r at)
map_at f (x ∷ xs) (suc j) r at = map_at f xs j r at

-- in the block of an augment of a block that gives nothing stands no item
pub nothing_given : (rows : List Row) (u a : ℕ) (q : Row) → slice_get rows a ≡ Some q → is_augment q ≡ true → q.scope ≡ u → is_giving rows u a ≡ false
    → (j : ℕ) (r : Row) → slice_get rows j ≡ Some r → r.scope ≡ a → augmented.is_node_or_uses r ≡ false
nothing_given rows u a q at is_aug scope gives_none j r row in_block = by (augmented.is_node_or_uses r) refl
  where
    told : is_in u (Some (if gives rows a q then Some q.scope else None)) ≡ false
    told = ap (is_in u) (sym (place_of_row rows a q at)) ∙ gives_none

    no_gives : (b : Bool) → gives rows a q ≡ b → is_in u (Some (if b then Some q.scope else None)) ≡ false → gives rows a q ≡ false
    no_gives true is h = absurd (false≢true (sym h ∙ eq-eqb q.scope u scope))
    no_gives false is h = is

    few : (b : Bool) → (length (numbers_from a 0 (item_places rows)) == 0) ≡ b → (is_augment q && not b) ≡ false → length (numbers_from a 0 (item_places rows)) ≡ 0
    few true is h = eqb-true (length (numbers_from a 0 (item_places rows))) 0 is
    few false is h = absurd (false≢true (sym h ∙ (ap (λ (b : Bool). b && true) is_aug)))

    by : (b : Bool) → augmented.is_node_or_uses r ≡ b → augmented.is_node_or_uses r ≡ false
    by false is = is
    by true is =
        absurd (numbers_none a 0 (item_places rows) j
        (map_at (λ r. if augmented.is_node_or_uses r then Some r.scope else None) rows j r row ∙ (ap (λ (b : Bool). Some (if b then Some r.scope else None)) is ∙ ap (λ (m : ℕ). Some (Some m)) in_block))
        (few (length (numbers_from a 0 (item_places rows)) == 0) refl (no_gives (gives rows a q) refl told)))

-- the place of a number among those of its place
number_place : (p n : ℕ) (places : List (Option ℕ)) (xs : List ℕ) (a : ℕ) (ys : List ℕ) → numbers_from p n places ≡ xs ++ a ∷ ys
    → (j : ℕ) × (a ≡ n + j) × (slice_get places j ≡ Some (Some p)) × (length (numbers_from p n (take j places)) ≡ length xs)
number_place p n [] [] a ys e = absurd (let bad : [] ≡ a ∷ ys = e in cc)
number_place p n [] (x ∷ xs) a ys e = absurd (let bad : [] ≡ x ∷ (xs ++ a ∷ ys) = e in cc)
number_place p n (o ∷ places) xs a ys e = by (is_place p o) refl xs e (λ zs f. number_place p (n + 1) places zs a ys f)
  where
    at_place : (o : Option ℕ) → is_place p o ≡ true → o ≡ Some p
    at_place None h = absurd (false≢true h)
    at_place (Some q) h = ap (λ m. Some m) (eqb-true q p h)

    by : (b : Bool) → is_place p o ≡ b → (xs : List ℕ) → (if b then n ∷ numbers_from p (n + 1) places else numbers_from p (n + 1) places) ≡ xs ++ a ∷ ys
        → ((zs : List ℕ) → numbers_from p (n + 1) places ≡ zs ++ a ∷ ys
        → (j : ℕ) × (a ≡ n + 1 + j) × (slice_get places j ≡ Some (Some p)) × (length (numbers_from p (n + 1) (take j places)) ≡ length zs))
        → (j : ℕ) × (a ≡ n + j) × (slice_get (o ∷ places) j ≡ Some (Some p)) × (length (numbers_from p n (take j (o ∷ places))) ≡ length xs)
    by true is [] e later = (0, (let same : n ≡ a = first_same n (numbers_from p (n + 1) places) a ys e in omega (arith, same)), ap (λ x. Some x) (at_place o is), refl)
      where
        first_same : (n : ℕ) (xs : List ℕ) (a : ℕ) (ys : List ℕ) → n ∷ xs ≡ a ∷ ys → n ≡ a
        first_same n xs a ys e = cc
    by true is (x ∷ xs) e later =
        let r = later xs (rest_same n (numbers_from p (n + 1) places) x (xs ++ a ∷ ys) e) in (
          suc r.0,
          (let f = r.1 in omega (arith, f)),
          r.2,
          ap (λ (b : Bool). length (if b then n ∷ numbers_from p (n + 1) (take r.0 places) else numbers_from p (n + 1) (take r.0 places))) is ∙ (let f = r.3 in omega (arith, f)),
        )
      where
        rest_same : (n : ℕ) (xs : List ℕ) (x : ℕ) (ys : List ℕ) → n ∷ xs ≡ x ∷ ys → xs ≡ ys
        rest_same n xs x ys e = cc
    by false is xs e later =
        let r = later xs e in (
          suc r.0,
          (let f = r.1 in omega (arith, f)),
          r.2,
          ap (λ (b : Bool). length (if b then n ∷ numbers_from p (n + 1) (take r.0 places) else numbers_from p (n + 1) (take r.0 places))) is ∙ r.3,
        )

pub ordinal_is : (rows : List Row) (u : ℕ) (xs : List ℕ) (a : ℕ) (ys : List ℕ) → augments_giving rows u ≡ xs ++ a ∷ ys → ordinal rows a ≡ length xs
ordinal_is rows u xs a ys e =
    let r = number_place u 0 (giving_places rows) xs a ys e in
    let same : a ≡ r.0 = (let f = r.1 in omega (arith, f)) in
    ap (place_before (giving_places rows) a) (ap (slice_get (giving_places rows)) same ∙ r.2)
    ∙ (ap (λ (m : ℕ). length (numbers_from u 0 (take m (giving_places rows)))) same ∙ r.3)

-- the statements of a block that pass a test are those among its statements, where the statement of
-- the block itself doesn't pass
same_tested : (test : Row → Bool) (rows : List Row) (u : ℕ) (n : ℕ) (rs : List Row) → ((i : ℕ) → slice_get rows (n + i) ≡ slice_get rs i) → ((r : Row) → slice_get rows u ≡ Some r → test r ≡ false)
    → numbers_from u n (map (λ r. if test r then Some r.scope else None) rs) ≡ filter (is_at test rows) (blocks.numbers_from (stands_in u) n rs)
same_tested test rows u n [] told no_test = refl
same_tested test rows u n (r ∷ rs) told no_test =
    by (test r) refl (r.scope == u) refl (r.scope == n) refl
    (same_tested test rows u (n + 1) rs (λ i. ap (slice_get rows) (let e : n + 1 + i ≡ n + suc i = omega arith in e) ∙ told (suc i)) no_test)
  where
    row : slice_get rows n ≡ Some r
    row = ap (slice_get rows) (let e : n ≡ n + 0 = omega arith in e) ∙ told 0

    is : is_at test rows n ≡ test r
    is = ap (λ o. unwrap_or (option_map test o) false) row

    theirs : List ℕ
    theirs = numbers_from u (n + 1) (map (λ r. if test r then Some r.scope else None) rs)

    mine : List ℕ
    mine = blocks.numbers_from (stands_in u) (n + 1) rs

    kept : (b : Bool) → is_at test rows n ≡ b → filter (is_at test rows) (n ∷ mine) ≡ cond b (n ∷ filter (is_at test rows) mine) (filter (is_at test rows) mine)
    kept b e = ap (λ (b : Bool). cond b (n ∷ filter (is_at test rows) mine) (filter (is_at test rows) mine)) e

    left : (a b : Bool) → test r ≡ a → (r.scope == u) ≡ b
        → (if is_place u (if test r then Some r.scope else None) then n ∷ theirs else theirs) ≡ (if a && b then n ∷ theirs else theirs)
    left true b e f = ap (λ (x : Bool). if is_place u (if x then Some r.scope else None) then n ∷ theirs else theirs) e ∙ ap (λ (x : Bool). if x then n ∷ theirs else theirs) f
    left false b e f = ap (λ (x : Bool). if is_place u (if x then Some r.scope else None) then n ∷ theirs else theirs) e

    right : (b d : Bool) → (r.scope == u) ≡ b → (r.scope == n) ≡ d
        → filter (is_at test rows) (if stands_in u n r then n ∷ mine else mine) ≡ filter (is_at test rows) (if b && not d then n ∷ mine else mine)
    right b d e f =
        ap (λ (x : Bool). filter (is_at test rows) (if x && not (r.scope == n) then n ∷ mine else mine)) e
        ∙ ap (λ (x : Bool). filter (is_at test rows) (if b && not x then n ∷ mine else mine)) f

    by : (a : Bool) → test r ≡ a → (b : Bool) → (r.scope == u) ≡ b → (d : Bool) → (r.scope == n) ≡ d
        → numbers_from u (n + 1) (map (λ r. if test r then Some r.scope else None) rs) ≡ filter (is_at test rows) (blocks.numbers_from (stands_in u) (n + 1) rs)
        → numbers_from u n (map (λ r. if test r then Some r.scope else None) (r ∷ rs)) ≡ filter (is_at test rows) (blocks.numbers_from (stands_in u) n (r ∷ rs))
    by true e true f true g rest =
        (let su : r.scope ≡ u = eqb-true r.scope u f in let sn : r.scope ≡ n = eqb-true r.scope n g in let same : u ≡ n = omega (arith, su, sn) in
        absurd (false≢true (sym (no_test r (ap (slice_get rows) same ∙ row)) ∙ e)))
    by true e true f false g rest = left true true e f ∙ (ap (λ l. n ∷ l) rest ∙ (sym (kept true (is ∙ e)) ∙ sym (right true false f g)))
    by true e false f d g rest = left true false e f ∙ (rest ∙ sym (right false d f g))
    by false e true f false g rest = left false true e f ∙ (rest ∙ (sym (kept false (is ∙ e)) ∙ sym (right true false f g)))
    by false e true f true g rest = left false true e f ∙ (rest ∙ sym (right true true f g))
    by false e false f d g rest = left false false e f ∙ (rest ∙ sym (right false d f g))

pub augments_are : (rows : List Row) (u : ℕ) → ((r : Row) → slice_get rows u ≡ Some r → is_augment r ≡ false) → augments_in rows u ≡ those is_augment rows (block_of rows u)
augments_are rows u no_augment = same_tested is_augment rows u 0 rows (λ i. ap (slice_get rows) (let e : 0 + i ≡ i = omega arith in e)) no_augment

pub refines_are : (rows : List Row) (u : ℕ) → ((r : Row) → slice_get rows u ≡ Some r → is_refine r ≡ false) → refines_in rows u ≡ those is_refine rows (block_of rows u)
refines_are rows u no_refine = same_tested is_refine rows u 0 rows (λ i. ap (slice_get rows) (let e : 0 + i ≡ i = omega arith in e)) no_refine
