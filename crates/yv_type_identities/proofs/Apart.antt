-- One identity at a place.
use Rattle.std.proofs.Common.{◌≡◌, ℕ, ◌+◌, ◌&&◌, inl, inr, zero, suc, Bool, true, cond, List, [], ◌∷◌, Option, Some, None, refl, sym, ◌∙◌, ap, arith}
use Rattle.std.proofs.lemmas.Bool.{cases_Bool}
use Rattle.std.proofs.lemmas.Option.{same_Some}
use Rattle.std.specs.List.{slice_get, position_from}
use Rattle.yv_link_scopes.specs.Names.{first_where}
use Rattle.yv_link_scopes.specs.Files.{Briefs}
use Rattle.yv_link_scopes.specs.Rows.{Row}
use Rattle.yv_link_identities.specs.Names.{is_identity}
use Rattle.yv_link_identities.specs.Derivation.{IsDerivedFrom, directly, further}
use Rattle.yv_link_identities.specs.References.{IsDerived, is_at, number_of, ref_of}
use Rattle.yv_link_identities.specs.declared.references.IdentityRef.{IdentityRef}
use Rattle.yv_type_identities.specs.Bases.{IsBelow}
use Rattle.yv_type_identities.proofs.PlaceSets.{same_at}
use Rattle.yv_type_identities.proofs.Below.{same_place}
use Rattle.yv_type_identities.proofs.RowLoop.{both, both_true}

module _ {X : Type 0} (p : X → Bool) where
  abbrev Found : ℕ → ℕ → List X → Type 0
  Found k d xs = (i : ℕ) × (x : X) × (d ≡ k + i) × (slice_get xs i ≡ Some x) × (p x ≡ true)

  position_found : (k d : ℕ) (xs : List X) → position_from p k xs ≡ Some d → Found k d xs
  position_found k d [] h = cc
  position_found k d (x ∷ xs) h = elim (cases_Bool (p x)) [
    | inl b ↦
        let e : k ≡ d = same_Some k d (ap (λ c. cond c (Some k) (position_from p (k + 1) xs)) (sym b) ∙ h) in
        (zero, x, let s : d ≡ k + zero = omega (arith, e) in s, refl, b)
    | inr b ↦
        let f = position_found (k + 1) d xs (ap (λ c. cond c (Some k) (position_from p (k + 1) xs)) (sym b) ∙ h) in
        (suc f.0, f.1, let s : d ≡ k + suc f.0 = omega (arith, f.2) in s, f.3, f.4)
  ]

  position_none : (k : ℕ) (xs : List X) → position_from p k xs ≡ None → (i : ℕ) (y : X) → slice_get xs i ≡ Some y → p y ≡ true → ⊥
  position_none k [] h i y at t = cc
  position_none k (x ∷ xs) h zero y at t =
      let here : p x ≡ true = ap p (same_Some x y at) ∙ t in
      let e : Some k ≡ None = ap (λ c. cond c (Some k) (position_from p (k + 1) xs)) (sym here) ∙ h in
      cc
  position_none k (x ∷ xs) h (suc i) y at t = elim (cases_Bool (p x)) [
    | inl b ↦ let e : Some k ≡ None = ap (λ c. cond c (Some k) (position_from p (k + 1) xs)) (sym b) ∙ h in cc
    | inr b ↦ position_none (k + 1) xs (ap (λ c. cond c (Some k) (position_from p (k + 1) xs)) (sym b) ∙ h) i y at t
  ]

  -- the first is the only one
  pub only_first : (xs : List X) (i : ℕ) (x : X) (o : Option ℕ) → first_where p xs ≡ o → slice_get xs i ≡ Some x → p x ≡ true → ((j : ℕ) (y : X) → slice_get xs j ≡ Some y → p y ≡ true → j ≡ i) → o ≡ Some i
  only_first xs i x None h at t only = absurd (position_none 0 xs h i x at t)
  only_first xs i x (Some d) h at t only =
      let f = position_found 0 d xs h in
      let same : f.0 ≡ i = only f.0 f.1 f.3 f.4 in
      let e : d ≡ i = omega (arith, f.2, same) in
      ap Some e

module _ (files : Briefs) (rows : List Row) (place base : IdentityRef) where
  abbrev is_there : Row → Bool
  is_there r = is_identity r && is_at place (ref_of r)

  -- what is derived is an identity
  pub own_of : (i b : ℕ) → IsDerivedFrom files rows i b → (r : Row) × (slice_get rows i ≡ Some r) × (is_identity r ≡ true)
  own_of i b (directly h) = (h.own, h.own_at, h.is_one)
  own_of i b (further h d) = (h.own, h.own_at, h.is_one)

  pub derived_below : IsDerived files rows place base → IsBelow files rows place base
  derived_below d =
      let f = position_found is_there 0 d.number rows d.meant in
      let same : f.0 ≡ d.number = omega (arith, f.2) in
      let p = both (is_identity f.1) (is_at place (ref_of f.1)) f.4 in
      record {
        number = d.number;
        statement = f.1;
        stands = ap (slice_get rows) (sym same) ∙ f.3;
        is_there = sym (same_at place (ref_of f.1) p.1);
        base_number = d.base_number;
        base_meant = d.base_meant;
        derived = d.derived;
      }

  pub below_derived : ((i j : ℕ) (r s : Row) → slice_get rows i ≡ Some r → slice_get rows j ≡ Some s → ref_of r ≡ place → ref_of s ≡ place → i ≡ j) → IsBelow files rows place base → IsDerived files rows place base
  below_derived apart b =
      let own = own_of b.number b.base_number b.derived in
      let same : own.0 ≡ b.statement = same_Some own.0 b.statement (sym own.1 ∙ b.stands) in
      let is : is_identity b.statement ≡ true = ap is_identity (sym same) ∙ own.2 in
      let there : is_there b.statement ≡ true = both_true (is_identity b.statement) (is_at place (ref_of b.statement)) is (same_place place (ref_of b.statement) (sym b.is_there)) in
      record {
        number = b.number;
        base_number = b.base_number;
        meant = only_first is_there rows b.number b.statement (number_of rows place) refl b.stands there (λ j y at t.
            let p = both (is_identity y) (is_at place (ref_of y)) t in
            apart j b.number y b.statement at b.stands (sym (same_at place (ref_of y) p.1)) b.is_there);
        base_meant = b.base_meant;
        derived = b.derived;
      }
