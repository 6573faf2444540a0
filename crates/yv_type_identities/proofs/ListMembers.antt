-- The members that a loop over a list gathers.
use Rattle.std.proofs.Common.{◌≡◌, ℕ, ◌+◌, ◌<◌, ◌||◌, ◌↔◌, ◌⊎◌, inl, inr, Bool, true, false, IsTrue, cond, List, [], ◌∷◌, ◌++◌, length, map, None, Some, refl, sym, ◌∙◌, ap, arith}
use Rattle.std.proofs.lemmas.Bool.{cases_Bool, cases_eq}
use Rattle.std.proofs.lemmas.List.{map-append}
use Rattle.std.proofs.lemmas.List.Folds.{list_any-append}
use Rattle.std.proofs.lemmas.Option.{same_Some, slice_get_within}
use Rattle.std.proofs.lemmas.Slice.Eq.{bytes_eq-Decides}
use Rattle.std.specs.List.{slice_get, list_any}
use Rattle.std.specs.Str.{bytes_eq}
use Rattle.yv_values.specs.Identities.{Id, id_of, is_identity}
use Rattle.yv_values.specs.Values.{Val}
use Rattle.yv_values.specs.declared.members.Member.{Member}
use Rattle.yv_type_identities.proofs.RowLoop.{both, both_true}

pub same_id : (module_name called : List ℕ) (i : Id) → is_identity module_name called i ≡ true → i ≡ record { module_name = module_name; name = called }
same_id module_name called i h =
    let p = both (bytes_eq i.module_name module_name) (bytes_eq i.name called) h in
    let make : List ℕ → List ℕ → Id = λ a b. record { module_name = a; name = b } in
    ap (λ a. make a i.name) ((bytes_eq-Decides i.module_name module_name).0 p.0) ∙ ap (make module_name) ((bytes_eq-Decides i.name called).0 p.1)

pub id_same : (module_name called : List ℕ) (i : Id) → i ≡ record { module_name = module_name; name = called } → is_identity module_name called i ≡ true
id_same module_name called i e =
    both_true (bytes_eq i.module_name module_name) (bytes_eq i.name called)
    ((bytes_eq-Decides i.module_name module_name).1 (ap (λ (x : Id). x.module_name) e))
    ((bytes_eq-Decides i.name called).1 (ap (λ (x : Id). x.name) e))

pub any_one : {X : Type 0} (p : X → Bool) (x : X) → list_any p (x ∷ []) ≡ p x
any_one p x = elim (cases_Bool (p x)) [
  | inl t ↦ ap (λ b. b || false) t ∙ sym t
  | inr f ↦ ap (λ b. b || false) f ∙ sym f
]

pub split : (a b : Bool) → (a || b) ≡ true → (a ≡ true) ⊎ (b ≡ true)
split true b h = inl refl
split false b h = inr h

pub left_true : (a b : Bool) → a ≡ true → (a || b) ≡ true
left_true true b h = refl
left_true false b h = cc

pub right_true : (a b : Bool) → b ≡ true → (a || b) ≡ true
right_true true b h = refl
right_true false b h = h

module _ {R : Type 0} (rows : List R) (passes : ℕ → R → Bool) (id : R → Id) where
  abbrev PassesFirst : ℕ → List ℕ → List ℕ → Type 0
  PassesFirst n module_name called = (i : ℕ) × (r : R) × (i < n) × (slice_get rows i ≡ Some r) × (passes i r ≡ true) × (id r ≡ record { module_name = module_name; name = called })

  -- the members are the identities of those of the first elements that pass
  abbrev pub Gathering : ℕ → List Member → Type 0
  Gathering n members = (module_name called : List ℕ) → IsTrue (list_any (is_identity module_name called) (map id_of members)) ↔ PassesFirst n module_name called

  none_found : (module_name called : List ℕ) (members : List Member) → members ≡ [] → list_any (is_identity module_name called) (map id_of members) ≡ false
  none_found module_name called members e = ap (λ ms. list_any (is_identity module_name called) (map id_of ms)) e

  pub gathering_none : (members : List Member) → members ≡ [] → Gathering 0 members
  gathering_none members e module_name called = (
    λ h. let clash : true ≡ false = sym h ∙ none_found module_name called members e in cc,
    λ h. absurd (omega (arith, h.2)),
  )

  pub gathering_more : (n : ℕ) (r : R) (m : Member) (old new : List Member) → slice_get rows n ≡ Some r → passes n r ≡ true → id_of m ≡ id r → new ≡ old ++ m ∷ [] → Gathering n old → Gathering (n + 1) new
  gathering_more n r m old new at is named more before module_name called =
      let test : Id → Bool = is_identity module_name called in
      let sum : list_any test (map id_of new) ≡ (list_any test (map id_of old) || test (id_of m)) =
      ap (λ ms. list_any test (map id_of ms)) more
      ∙ ap (list_any test) (map-append id_of old (m ∷ []))
      ∙ list_any-append test (map id_of old) (id_of m ∷ [])
      ∙ ap (λ b. list_any test (map id_of old) || b) (any_one test (id_of m)) in (
        λ h. elim (split (list_any test (map id_of old)) (test (id_of m)) (sym sum ∙ h)) [
          | inl earlier ↦ let p = (before module_name called).0 earlier in (p.0, p.1, let l : p.0 < n + 1 = omega (arith, p.2) in l, p.3, p.4, p.5)
          | inr here ↦ (n, r, let l : n < n + 1 = omega arith in l, at, is, sym named ∙ same_id module_name called (id_of m) here)
        ],
        λ h. sum ∙ elim (cases_eq h.0 n) [
          | inl e ↦
              let same : h.1 ≡ r = same_Some h.1 r (sym h.3 ∙ ap (slice_get rows) e ∙ at) in
              right_true (list_any test (map id_of old)) (test (id_of m)) (id_same module_name called (id_of m) (named ∙ ap id (sym same) ∙ h.5))
          | inr ne ↦ left_true (list_any test (map id_of old)) (test (id_of m)) ((before module_name called).1 (h.0, h.1, let l : h.0 < n = omega (arith, h.2, ne) in l, h.3, h.4, h.5))
        ],
      )

  pub gathering_same : (n : ℕ) (r : R) (old : List Member) → slice_get rows n ≡ Some r → passes n r ≡ false → Gathering n old → Gathering (n + 1) old
  gathering_same n r old at isnt before module_name called = (
    λ h. let p = (before module_name called).0 h in (p.0, p.1, let l : p.0 < n + 1 = omega (arith, p.2) in l, p.3, p.4, p.5),
    λ h. elim (cases_eq h.0 n) [
      | inl e ↦
          let same : h.1 ≡ r = same_Some h.1 r (sym h.3 ∙ ap (slice_get rows) e ∙ at) in
          let clash : true ≡ false = sym h.4 ∙ ap (λ i. passes i h.1) e ∙ ap (passes n) same ∙ isnt in
          cc
      | inr ne ↦ (before module_name called).1 (h.0, h.1, let l : h.0 < n = omega (arith, h.2, ne) in l, h.3, h.4, h.5)
    ],
  )

  pub gathered : (n : ℕ) (members : List Member) → n ≡ length rows → Gathering n members → (module_name called : List ℕ)
      → IsTrue (list_any (is_identity module_name called) (map id_of members)) ↔ ((i : ℕ) × (r : R) × (slice_get rows i ≡ Some r) × (passes i r ≡ true) × (id r ≡ record { module_name = module_name; name = called }))
  gathered n members e before module_name called = (
    λ h. let p = (before module_name called).0 h in (p.0, p.1, p.3, p.4, p.5),
    λ h. (before module_name called).1 (h.0, h.1, let l : h.0 < n = omega (arith, e, slice_get_within rows h.0 h.1 h.2) in l, h.2, h.3, h.4),
  )

-- an identity is found in both lists or in neither
pub told_alike : (b c : Bool) (v : Val) → cond b (Some v) None ≡ cond c (Some v) None → b ≡ c
told_alike true true v e = refl
told_alike false false v e = refl
told_alike true false v e = absurd (cc)
told_alike false true v e = absurd (cc)
