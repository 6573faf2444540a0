-- Identities of which one is there twice.
use Rattle.std.proofs.Common.{◌≡◌, ℕ, ◌+◌, ◌<◌, ◌≤◌, Bool, Option, None, Some, IfNone, IfSome, true, false, cond, List, [], ◌∷◌, length, get_or, map, take, drop, refl, sym, ◌∙◌, ap, arith}
use Rattle.std.specs.List.{count_by, slice_get, sum}
use Rattle.std.specs.List.Sorted.{IsPermutation, IsSortedByKey}
use Rattle.std.specs.Ordering.{is_eq, is_lt, ordering_reverse, ordering_then}
use Rattle.std.specs.declared.cmp.Ordering.{Ordering}
use Rattle.std.specs.declared.cmp.Ordering.TheVariants.{Less, Equal, Greater}
use Rattle.std.proofs.lemmas.List.{take-append-drop}
use Rattle.std.proofs.lemmas.List.Sorted.{sum_by-IsPermutation}
use Rattle.std.proofs.lemmas.List.Sums.{count_by_more_yes, sum-map, sum_by-append}
use Rattle.std.proofs.lemmas.Option.{get_or_from_slice_get, slice_get_within}
use Rattle.yv_values.specs.declared.numbered_members.NumberedMember.{NumberedMember}
use Rattle.yv_values.specs.Identities.{HasTwins, Id, NumberedId, id_cmp, is_identity, numbered_of}
use Rattle.yv_values.specs.InnerMembers.{HasStop, entry_id}
use Rattle.yv_values.proofs.IdentitySearch.{compared, ids_total}
use Rattle.yv_values.proofs.NumberedIdentities.{is_itself}

-- what comes first by two orders comes first or is the same by the first one
pub first_isnt_less : (o r : Ordering) → is_lt (ordering_then o r) ≡ false → is_lt o ≡ false
first_isnt_less Less r h = absurd (cc)
first_isnt_less Equal r h = refl
first_isnt_less Greater r h = refl

neither_less : (o r : Ordering) → o ≡ ordering_reverse r → is_lt o ≡ false → is_lt r ≡ false → o ≡ Equal
neither_less Less r e f g = absurd (cc)
neither_less Equal r e f g = refl
neither_less Greater Less e f g = absurd (cc)
neither_less Greater Equal e f g = absurd (cc)
neither_less Greater Greater e f g = absurd (cc)

module _ {X : Type 0} (p : X → Bool) where
  counted_front : (n : ℕ) (xs : List X) → count_by p (take n xs) ≤ count_by p xs
  counted_front n xs =
      let whole : count_by p (take n xs) + count_by p (drop n xs) ≡ count_by p xs = sym (sum_by-append (λ x. cond (p x) 1 0) (take n xs) (drop n xs)) ∙ ap (λ (l : List X). count_by p l) (take-append-drop n xs) in
      omega (arith, whole)

  -- two neighbours that pass are two
  counted_two : (xs : List X) (k : ℕ) (a b : X) → slice_get xs k ≡ Some a → slice_get xs (k + 1) ≡ Some b → p a ≡ true → p b ≡ true → 1 < count_by p xs
  counted_two xs k a b one next pa pb =
      let first = count_by_more_yes p xs k a (slice_get_within xs k a one) (ap p (get_or_from_slice_get xs k a a one) ∙ pa) in
      let second = count_by_more_yes p xs (k + 1) b (slice_get_within xs (k + 1) b next) (ap p (get_or_from_slice_get xs (k + 1) b b next) ∙ pb) in
      let front = counted_front (k + 1 + 1) xs in
      omega (arith, first, second, front)

mapped_twice : {X Y : Type 0} (f : X → Y) (g : Y → ℕ) (xs : List X) → map g (map f xs) ≡ map (λ x. g (f x)) xs
mapped_twice f g [] = refl
mapped_twice f g (x ∷ xs) = ap (λ (ns : List ℕ). g (f x) ∷ ns) (mapped_twice f g xs)

counted_mapped : {X Y : Type 0} (f : X → Y) (p : Y → Bool) (xs : List X) → count_by p (map f xs) ≡ count_by (λ x. p (f x)) xs
counted_mapped f p xs =
    sym (sum-map (λ y. cond (p y) 1 0) (map f xs)) ∙ ap (λ (ns : List ℕ). sum ns) (mapped_twice f (λ y. cond (p y) 1 0) xs) ∙ sum-map (λ x. cond (p (f x)) 1 0) xs

-- what is there twice in one order is in another
pub moved_twins : (xs ys : List NumberedMember) → IsPermutation xs ys → HasTwins (map numbered_of ys) → HasTwins (map numbered_of xs)
moved_twins xs ys moved twins =
    let p : NumberedId → Bool = λ e. is_identity twins.twin.module_name twins.twin.name e.id in
    let same : count_by p (map numbered_of ys) ≡ count_by p (map numbered_of xs) =
    counted_mapped numbered_of p ys ∙ sum_by-IsPermutation (λ (m : NumberedMember). cond (p (numbered_of m)) 1 0) xs ys moved ∙ sym (counted_mapped numbered_of p xs) in
    record {
      twin = twins.twin;
      twice = (let many = twins.twice in omega (arith, many, same));
    }

-- two neighbours in order of which one doesn't come before the other are the same
pub stopped_twins : (xs : List NumberedMember) → IsSortedByKey entry_id id_cmp xs → HasStop xs → HasTwins (map numbered_of xs)
stopped_twins xs up stop =
    let i : Id = entry_id stop.one in
    let j : Id = entry_id stop.next in
    let inside : stop.place + 1 < length xs = slice_get_within xs (stop.place + 1) stop.next stop.there in
    let back : is_lt (id_cmp j i) ≡ false =
    ap (λ (m : NumberedMember). is_lt (id_cmp (entry_id m) i)) (sym (get_or_from_slice_get xs (stop.place + 1) stop.next stop.one stop.there))
    ∙ ap (λ (m : NumberedMember). is_lt (id_cmp (entry_id (get_or xs (stop.place + 1) stop.one)) (entry_id m))) (sym (get_or_from_slice_get xs stop.place stop.one stop.one stop.here))
    ∙ up stop.place stop.one (omega arith) inside in
    let level : id_cmp i j ≡ Equal = neither_less (id_cmp i j) (id_cmp j i) (ids_total.antisymm i j) stop.stops back in
    let q : NumberedMember → Bool = λ m. is_identity j.module_name j.name (entry_id m) in
    let two : 1 < count_by q xs = counted_two q xs stop.place stop.one stop.next stop.here stop.there
    (compared j.module_name j.name i ∙ ap is_eq level) (is_itself j.module_name j.name j refl) in
    let same = counted_mapped numbered_of (λ (e : NumberedId). is_identity j.module_name j.name e.id) xs in
    record {
      twin = j;
      twice = omega (arith, two, same);
    }

pub where_some : {A : Type 0} {P Q : A → Type 0} (o : Option A) → ((a : A) → P a → Q a) → IfSome o P → IfSome o Q
where_some None to h = tt
where_some (Some a) to h = to a h

pub where_none : {A : Type 0} {P Q : Type 0} (o : Option A) → (P → Q) → IfNone o P → IfNone o Q
where_none None to h = to h
where_none (Some a) to h = tt
