-- An identity that is sought among identities in their order.
use Rattle.std.proofs.Common.{◌≡◌, ℕ, zero, suc, ◌<◌, ◌≤◌, ◌-◌, Bool, Some, true, false, ◌||◌, ◌&&◌, List, [], ◌∷◌, length, get_or, map, refl, sym, ◌∙◌, ap, arith, inl, inr}
use Rattle.std.specs.Cmp.{IsTotalOrder}
use Rattle.std.specs.Cmp.Lexicographic.{slice_cmp, on_texts, texts_ties}
use Rattle.std.specs.List.{list_any, slice_get, HoldsAt}
use Rattle.std.specs.List.Sorted.{IsSortedByKey, IsNonDecreasingBy, IsPartitionPoint}
use Rattle.std.specs.Ordering.{is_eq, nat_cmp, ordering_index}
use Rattle.std.specs.Str.{bytes_eq}
use Rattle.std.specs.declared.cmp.Ordering.{Ordering}
use Rattle.std.specs.declared.cmp.Ordering.TheVariants.{Less, Equal, Greater}
use Rattle.std.proofs.lemmas.Bool.{cases_lt}
use Rattle.std.proofs.lemmas.Cmp.{then_total}
use Rattle.std.proofs.lemmas.List.Sorted.{searchable_from_sorted}
use Rattle.std.proofs.lemmas.Option.{get_or_from_slice_get, slice_get-get_or, slice_get_within}
use Rattle.std.proofs.lemmas.Slice.Eq.{bytes_eq-Decides}
use Rattle.yv_values.specs.Identities.{Id, id_cmp, is_identity}
use Rattle.yv_values.proofs.MappedLists.{any_mapped}
use Rattle.yv_values.proofs.Same.{then_equal}

pub ids_total : IsTotalOrder id_cmp
ids_total = then_total (on_texts (λ (i : Id). i.module_name)) (on_texts (λ (i : Id). i.name))

-- the comparison tells whether it is the identity
pub compared : (module_name called : List ℕ) (i : Id) → is_identity module_name called i ≡ is_eq (id_cmp i record { module_name = module_name; name = called })
compared module_name called i =
    ap (λ b. b && bytes_eq i.name called) (texts_ties i.module_name module_name) ∙ ap (λ b. is_eq (slice_cmp nat_cmp i.module_name module_name) && b) (texts_ties i.name called) ∙ sym (then_equal (slice_cmp nat_cmp i.module_name module_name) (slice_cmp nat_cmp i.name called))

and_left : (a b : Bool) → (a && b) ≡ true → a ≡ true
and_left true b h = refl
and_left false b h = absurd (cc)

and_right : (a b : Bool) → (a && b) ≡ true → b ≡ true
and_right true b h = h
and_right false b h = absurd (cc)

pub either_order : (a b : Bool) → (a && b) ≡ (b && a)
either_order true true = refl
either_order true false = refl
either_order false true = refl
either_order false false = refl

abbrev id_with : List ℕ → List ℕ → Id
id_with module_name called = record { module_name = module_name; name = called }

joined : (i : Id) (module_name called : List ℕ) → i.module_name ≡ module_name → i.name ≡ called → i ≡ record { module_name = module_name; name = called }
joined i module_name called e f = ap (λ (t : List ℕ). id_with t i.name) e ∙ ap (id_with module_name) f

pub same_id : (module_name called : List ℕ) (i : Id) → id_cmp i record { module_name = module_name; name = called } ≡ Equal → i ≡ record { module_name = module_name; name = called }
same_id module_name called i h =
    let t = compared module_name called i ∙ ap is_eq h in
    joined i module_name called ((bytes_eq-Decides i.module_name module_name).0 (and_left _ _ t)) ((bytes_eq-Decides i.name called).0 (and_right (bytes_eq i.module_name module_name) _ t))

any_at : {X : Type 0} (p : X → Bool) (xs : List X) (i : ℕ) (d : X) → i < length xs → p (get_or xs i d) ≡ true → list_any p xs ≡ true
any_at p [] i d b h = absurd (omega arith)
any_at p (x ∷ xs) zero d b h = ap (λ t. t || list_any p xs) h
any_at p (x ∷ xs) (suc i) d b h = ap (λ t. p x || t) (any_at p xs i d (omega arith) h) ∙ or_true (p x)
  where
    or_true : (t : Bool) → (t || true) ≡ true
    or_true true = refl
    or_true false = refl

any_none : {X : Type 0} (p : X → Bool) (xs : List X) → ((k : ℕ) (d : X) → k < length xs → p (get_or xs k d) ≡ false) → list_any p xs ≡ false
any_none p [] h = refl
any_none p (x ∷ xs) h = rw (h zero x (omega arith)) (any_none p xs (λ k d b. h (suc k) d (omega arith)))

module _ {X : Type 0} (f : X → Id) (module_name called : List ℕ) (xs : List X) where
  pub found : (at : ℕ) (d : X) → at < length xs → HoldsAt (λ y. id_cmp (f y) record { module_name = module_name; name = called } ≡ Equal) xs at → list_any (is_identity module_name called) (map f xs) ≡ true
  found at d b h = any_mapped f (is_identity module_name called) xs ∙ any_at (λ m. is_identity module_name called (f m)) xs at d b (compared module_name called (f (get_or xs at d)) ∙ ap is_eq (h d))

  pub found_at : (at : ℕ) (m : X) → slice_get xs at ≡ Some m → is_identity module_name called (f m) ≡ true → list_any (is_identity module_name called) (map f xs) ≡ true
  found_at at m e h =
      any_mapped f (is_identity module_name called) xs ∙ any_at (λ m. is_identity module_name called (f m)) xs at m (slice_get_within xs at m e)
      (ap (λ (y : X). is_identity module_name called (f y)) (get_or_from_slice_get xs at m m e) ∙ h)

  pub absent : (at : ℕ) → IsSortedByKey f id_cmp xs → (IsNonDecreasingBy (λ y. ordering_index (id_cmp (f y) record { module_name = module_name; name = called })) xs → IsPartitionPoint (λ y. id_cmp (f y) record { module_name = module_name; name = called } ≡ Less) (λ y. id_cmp (f y) record { module_name = module_name; name = called } ≡ Greater) xs at) → list_any (is_identity module_name called) (map f xs) ≡ false
  absent at up h =
      let point = h (searchable_from_sorted ids_total f xs record { module_name = module_name; name = called } up) in
      any_mapped f (is_identity module_name called) xs ∙ any_none (λ m. is_identity module_name called (f m)) xs (λ k d b.
      compared module_name called (f (get_or xs k d)) ∙ elim (cases_lt k at) [
        | inl low ↦ ap is_eq (point.0 k d (omega arith) low)
        | inr high ↦ ap is_eq (point.1 k d high b)
      ])

  -- it is none of them where it stands after the one before a place, and before the one at that
  -- place
  abbrev side : X → ℕ
  side y = ordering_index (id_cmp (f y) record { module_name = module_name; name = called })

  between : (at : ℕ) → IsNonDecreasingBy side xs → (0 < at → (m : X) × (slice_get xs (at - 1) ≡ Some m) × (side m ≡ 0)) → ((m : X) → slice_get xs at ≡ Some m → side m ≡ 2) → (k : ℕ) (d : X) → k < length xs → side (get_or xs k d) ≡ 1 → ⊥
  between at up below above k d b one = elim (cases_lt k at) [
    | inl low ↦
        let last = below (omega arith) in
        let e : get_or xs (at - 1) d ≡ last.0 = get_or_from_slice_get xs (at - 1) last.0 d last.1 in
        let within : at - 1 < length xs = slice_get_within xs (at - 1) last.0 last.1 in
        let falls : side (get_or xs k d) ≤ side (get_or xs (at - 1) d) = up k (at - 1) d (omega arith) within in
        let none : side (get_or xs (at - 1) d) ≡ 0 = ap side e ∙ last.2 in
        omega arith
    | inr high ↦
        let within : at < length xs = omega arith in
        let two : side (get_or xs at d) ≡ 2 = above (get_or xs at d) (slice_get-get_or xs at d within) in
        let rises : side (get_or xs at d) ≤ side (get_or xs k d) = up at k d high b in
        omega arith
  ]

  pub apart : (at : ℕ) → IsSortedByKey f id_cmp xs
      → (0 < at → (m : X) × (slice_get xs (at - 1) ≡ Some m) × (id_cmp (f m) record { module_name = module_name; name = called } ≡ Less))
      → ((m : X) → slice_get xs at ≡ Some m → id_cmp (f m) record { module_name = module_name; name = called } ≡ Greater)
      → list_any (is_identity module_name called) (map f xs) ≡ false
  apart at up below above =
      any_mapped f (is_identity module_name called) xs ∙ any_none (λ m. is_identity module_name called (f m)) xs (λ k d b.
      compared module_name called (f (get_or xs k d)) ∙ not_one (id_cmp (f (get_or xs k d)) record { module_name = module_name; name = called })
      (between at (searchable_from_sorted ids_total f xs record { module_name = module_name; name = called } up) (λ h. let m = below h in (m.0, m.1, ap ordering_index m.2)) (λ m h. ap ordering_index (above m h)) k d b))
    where
      not_one : (o : Ordering) → (ordering_index o ≡ 1 → ⊥) → is_eq o ≡ false
      not_one Less h = refl
      not_one Equal h = absurd (h refl)
      not_one Greater h = refl
