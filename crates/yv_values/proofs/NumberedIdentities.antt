-- Identities with numbers, and those whose numbers are between others.
use Rattle.std.proofs.Common.{◌≡◌, ℕ, zero, suc, ◌<◌, ◌≤◌, Bool, true, false, ◌||◌, ◌&&◌, cond, List, [], ◌∷◌, ◌++◌, length, get_or, map, take, drop, refl, sym, ◌∙◌, ap, subst, arith}
use Rattle.std.proofs.lemmas.List.{take_all, take-append-drop}
use Rattle.std.proofs.Math.Seq.{take-append_seam}
use Rattle.std.specs.List.{AllByRecursion, Contains, filter, list_any}
use Rattle.std.specs.List.Sorted.{IsStrictlySortedBy}
use Rattle.std.specs.Ordering.{is_eq, ordering_reverse}
use Rattle.std.specs.Str.{bytes_eq}
use Rattle.std.proofs.lemmas.Slice.Eq.{bytes_eq-Decides}
use Rattle.std.specs.declared.cmp.Ordering.{Ordering}
use Rattle.std.specs.declared.cmp.Ordering.TheVariants.{Less, Equal, Greater}
use Rattle.yv_values.specs.declared.members.Member.{Member}
use Rattle.yv_values.specs.declared.numbered_members.NumberedMember.{NumberedMember}
use Rattle.yv_values.specs.Identities.{Id, NumberedId, RiseById, between, id_cmp, id_of, ids_of, is_between, is_identity, numbered_of}
use Rattle.yv_values.specs.InnerMembers.{entry_id, with_zero}
use Rattle.yv_values.proofs.IdentitySearch.{compared, ids_total, same_id}

pub ids_numbered : (xs : List NumberedMember) → ids_of (map numbered_of xs) ≡ map entry_id xs
ids_numbered [] = refl
ids_numbered (x ∷ xs) = ap (λ (ids : List Id). id_of x.member ∷ ids) (ids_numbered xs)

pub contains_mapped : {X Y : Type 0} (f : X → Y) (xs : List X) (i : ℕ) (x : X) → i < length xs → x ≡ get_or xs i x → Contains (map f xs) (f x)
contains_mapped f [] i x b e = absurd (omega (arith, b))
contains_mapped f (y ∷ ys) zero x b e = (zero, omega arith, ap f (sym e))
contains_mapped f (y ∷ ys) (suc i) x b e = let c = contains_mapped f ys i x (omega (arith, b)) e in (suc c.0, omega (arith, c.1), c.2)

-- one that stands before another isn't the same
before_apart : (module_name called : List ℕ) (i j : Id) → id_cmp i j ≡ Less → is_identity module_name called i ≡ true → is_identity module_name called j ≡ false
before_apart module_name called i j less is = by (is_identity module_name called j) refl
  where
    equal : (o : Ordering) → is_eq o ≡ true → o ≡ Equal
    equal Less h = absurd (cc)
    equal Equal h = refl
    equal Greater h = absurd (cc)

    same : (k : Id) → is_identity module_name called k ≡ true → k ≡ record { module_name = module_name; name = called }
    same k h = same_id module_name called k (equal (id_cmp k record { module_name = module_name; name = called }) (sym (compared module_name called k) ∙ h))

    never : (o : Ordering) → o ≡ ordering_reverse o → o ≡ Less → ⊥
    never Less e h = cc
    never Equal e h = cc
    never Greater e h = cc

    by : (b : Bool) → is_identity module_name called j ≡ b → b ≡ false
    by false h = refl
    by true h =
        let one : i ≡ j = same i is ∙ sym (same j h) in
        absurd (never (id_cmp i i) (ids_total.antisymm i i) (subst (λ (k : Id). id_cmp i k ≡ Less) (sym one) less))

module _ (module_name called : List ℕ) (q : NumberedId → Bool) where
  -- an identity that is none of a list is none of a part of it
  pub none_left : (all : List NumberedId) → list_any (is_identity module_name called) (ids_of all) ≡ false → list_any (is_identity module_name called) (ids_of (filter q all)) ≡ false
  none_left [] h = refl
  none_left (x ∷ xs) h = by (is_identity module_name called x.id) (q x) refl h (none_left xs)
    where
      by : (a b : Bool) → is_identity module_name called x.id ≡ a → (a || list_any (is_identity module_name called) (ids_of xs)) ≡ false
          → (list_any (is_identity module_name called) (ids_of xs) ≡ false → list_any (is_identity module_name called) (ids_of (filter q xs)) ≡ false)
          → list_any (is_identity module_name called) (ids_of (cond b (x ∷ filter q xs) (filter q xs))) ≡ false
      by true b e h later = absurd (cc)
      by false true e h later = ap (λ a. a || list_any (is_identity module_name called) (ids_of (filter q xs))) e ∙ later h
      by false false e h later = later h

  none_after : (i : Id) (all : List NumberedId) → is_identity module_name called i ≡ true → AllByRecursion (λ k. id_cmp i k ≡ Less) (ids_of all) → list_any (is_identity module_name called) (ids_of all) ≡ false
  none_after i [] is h = refl
  none_after i (x ∷ xs) is h = ap (λ b. b || list_any (is_identity module_name called) (ids_of xs)) (before_apart module_name called i x.id h.0 is) ∙ none_after i xs is h.1

  from_order : (i : Id) (all : List NumberedId) (at : ℕ) (e : NumberedId) → AllByRecursion (λ k. id_cmp i k ≡ Less) (ids_of all) → at < length all → get_or all at e ≡ e → id_cmp i e.id ≡ Less
  from_order i [] at e h b is = absurd (omega (arith, b))
  from_order i (x ∷ xs) zero e h b is = subst (λ (y : NumberedId). id_cmp i y.id ≡ Less) is h.0
  from_order i (x ∷ xs) (suc at) e h b is = from_order i xs at e h.1 (omega (arith, b)) is

  apart_before : (i j : Id) → id_cmp i j ≡ Less → is_identity module_name called j ≡ true → is_identity module_name called i ≡ false
  apart_before i j less is = by (is_identity module_name called i) refl
    where
      by : (b : Bool) → is_identity module_name called i ≡ b → b ≡ false
      by false h = refl
      by true h = let t : true ≡ false = sym is ∙ before_apart module_name called i j less h in absurd (cc)

  -- one that is in a list in order is in the part where the test passes
  pub only_one : (all : List NumberedId) (at : ℕ) (e : NumberedId) → RiseById (ids_of all) → at < length all → get_or all at e ≡ e → is_identity module_name called e.id ≡ true
      → list_any (is_identity module_name called) (ids_of (filter q all)) ≡ q e
  unfolding IsStrictlySortedBy
  only_one [] at e up b is one = absurd (omega (arith, b))
  only_one (x ∷ xs) zero e up b is one = by (q x) refl
    where
      here : is_identity module_name called x.id ≡ true
      here = ap (λ (y : NumberedId). is_identity module_name called y.id) is ∙ one

      by : (a : Bool) → q x ≡ a → list_any (is_identity module_name called) (ids_of (cond a (x ∷ filter q xs) (filter q xs))) ≡ q e
      by true t = ap (λ c. c || list_any (is_identity module_name called) (ids_of (filter q xs))) here ∙ sym t ∙ ap q is
      by false t = none_left xs (none_after x.id xs here up.0) ∙ sym t ∙ ap q is
  only_one (x ∷ xs) (suc at) e up b is one = by (q x) (only_one xs at e up.1 (omega (arith, b)) is one)
    where
      off : is_identity module_name called x.id ≡ false
      off = apart_before x.id e.id (from_order x.id xs at e up.0 (omega (arith, b)) is) one

      by : (a : Bool) → list_any (is_identity module_name called) (ids_of (filter q xs)) ≡ q e → list_any (is_identity module_name called) (ids_of (cond a (x ∷ filter q xs) (filter q xs))) ≡ q e
      by true h = ap (λ c. c || list_any (is_identity module_name called) (ids_of (filter q xs))) off ∙ h
      by false h = h

pub is_itself : (module_name called : List ℕ) (i : Id) → i ≡ record { module_name = module_name; name = called } → is_identity module_name called i ≡ true
is_itself module_name called i e =
    let here : is_identity module_name called (record { module_name = module_name; name = called }) ≡ true =
    ap (λ b. b && bytes_eq called called) ((bytes_eq-Decides module_name module_name).1 refl) ∙ (bytes_eq-Decides called called).1 refl in
    ap (λ (j : Id). is_identity module_name called j) e ∙ here

-- a part of a list in order is in order
pub part_rises : (q : NumberedId → Bool) (all : List NumberedId) → RiseById (ids_of all) → RiseById (ids_of (filter q all))
unfolding IsStrictlySortedBy
part_rises q [] up = tt
part_rises q (x ∷ xs) up = by (q x) (left xs up.0) (part_rises q xs up.1)
  where
    left : (ys : List NumberedId) → AllByRecursion (λ k. id_cmp x.id k ≡ Less) (ids_of ys) → AllByRecursion (λ k. id_cmp x.id k ≡ Less) (ids_of (filter q ys))
    left [] h = tt
    left (y ∷ ys) h = keep (q y) h.0 (left ys h.1)
      where
        keep : (b : Bool) → id_cmp x.id y.id ≡ Less → AllByRecursion (λ k. id_cmp x.id k ≡ Less) (ids_of (filter q ys)) → AllByRecursion (λ k. id_cmp x.id k ≡ Less) (ids_of (cond b (y ∷ filter q ys) (filter q ys)))
        keep true e h = (e, h)
        keep false e h = h

    by : (b : Bool) → AllByRecursion (λ k. id_cmp x.id k ≡ Less) (ids_of (filter q xs)) → RiseById (ids_of (filter q xs)) → RiseById (ids_of (cond b (x ∷ filter q xs) (filter q xs)))
    by true h r = (h, r)
    by false h r = r

-- all of a list without numbers
pub all_zero : (ms : List Member) → between (map numbered_of (map with_zero ms)) 0 1 ≡ map id_of ms
all_zero [] = refl
all_zero (m ∷ ms) = ap (λ (ids : List Id). id_of m ∷ ids) (all_zero ms)

pub zero_ids : (ms : List Member) → map entry_id (map with_zero ms) ≡ map id_of ms
zero_ids [] = refl
zero_ids (m ∷ ms) = ap (λ (ids : List Id). id_of m ∷ ids) (zero_ids ms)

-- ### the first identities of a part

abbrev part : ℕ → ℕ → List NumberedMember → List Id
part low high es = between (map numbered_of es) low high

part-append : (low high : ℕ) (xs ys : List NumberedMember) → part low high (xs ++ ys) ≡ part low high xs ++ part low high ys
part-append low high [] ys = refl
part-append low high (x ∷ xs) ys = by (is_between low high x.number) (part-append low high xs ys)
  where
    left : List NumberedId → List NumberedId
    left all = filter (λ (e : NumberedId). is_between low high e.number) all

    by : (b : Bool) → part low high (xs ++ ys) ≡ part low high xs ++ part low high ys
        → ids_of (cond b (numbered_of x ∷ left (map numbered_of (xs ++ ys))) (left (map numbered_of (xs ++ ys)))) ≡ ids_of (cond b (numbered_of x ∷ left (map numbered_of xs)) (left (map numbered_of xs))) ++ part low high ys
    by true h = ap (λ (ids : List Id). id_of x.member ∷ ids) h
    by false h = h

module _ (low high most i : ℕ) (es : List NumberedMember) (ids : List Id) (each : ids ≡ part low high (take i es)) where
  pub front_all : length es ≤ i → length ids ≤ most → ids ≡ take most (part low high es)
  front_all past few =
      let same : ids ≡ part low high es = each ∙ ap (part low high) (take_all i es past) in
      same ∙ sym (take_all most (part low high es) (omega (arith, ap length same, few)))

  pub front_full : length ids ≡ most → ids ≡ take most (part low high es)
  front_full full =
      let whole : ids ++ part low high (drop i es) ≡ part low high es =
      ap (λ (xs : List Id). xs ++ part low high (drop i es)) each ∙ sym (part-append low high (take i es) (drop i es)) ∙ ap (part low high) (take-append-drop i es) in
      sym (take-append_seam ids (part low high (drop i es))) ∙ ap (λ n. take n (ids ++ part low high (drop i es))) full ∙ ap (take most) whole
