-- The number of the identity at each place.
use Rattle.std.proofs.Common.{◌≡◌, ℕ, ◌+◌, ◌<◌, inl, inr, true, false, cond, List, length, Some, None, sym, ◌∙◌, ap, arith}
use Rattle.std.specs.List.{slice_get}
use Rattle.std.proofs.lemmas.Bool.{cases_Bool, cases_eq}
use Rattle.std.proofs.lemmas.Option.{same_Some, slice_get_within}
use Rattle.yv_link_scopes.specs.Rows.{Row}
use Rattle.yv_link_identities.specs.Names.{is_identity}
use Rattle.yv_link_identities.specs.References.{is_at, ref_of}
use Rattle.yv_link_identities.specs.declared.references.IdentityRef.{IdentityRef}
use Rattle.yv_type_identities.specs.InnerRuns.{AreIdentityPlaces, number_at}
use Rattle.yv_type_identities.specs.declared.identity_places.IdentityPlaces.{IdentityPlaces}
use Rattle.yv_type_identities.proofs.Below.{same_place}
use Rattle.yv_type_identities.proofs.PlaceSets.{same_at}

-- the numbers of the identities among the first statements are kept
pub record PlacesFirst (rows : List Row) (n : ℕ) (places : IdentityPlaces) : Type 0 where
  pub found : (k : ℕ) (r : Row) → k < n → slice_get rows k ≡ Some r → is_identity r ≡ true → number_at places (ref_of r) ≡ Some k
  pub only : (place : IdentityRef) (k : ℕ) → number_at places place ≡ Some k → (r : Row) × (slice_get rows k ≡ Some r) × (is_identity r ≡ true) × (ref_of r ≡ place)

pub places_none : (rows : List Row) (places : IdentityPlaces) → ((place : IdentityRef) → number_at places place ≡ None) → PlacesFirst rows 0 places
places_none rows places none = record {
  found = λ k r l. absurd (omega (arith, l));
  only = λ place k h. let clash : None ≡ Some k = sym (none place) ∙ h in absurd (cc);
}

pub places_other : (rows : List Row) (n : ℕ) (r : Row) (places : IdentityPlaces) → slice_get rows n ≡ Some r → is_identity r ≡ false → PlacesFirst rows n places → PlacesFirst rows (n + 1) places
places_other rows n r places at isnt before = record {
  found = λ k s l here is. elim (cases_eq k n) [
    | inl e ↦
        let same : s ≡ r = same_Some s r (sym here ∙ ap (slice_get rows) e ∙ at) in
        let clash : true ≡ false = sym is ∙ ap is_identity same ∙ isnt in
        absurd (cc)
    | inr ne ↦ before.found k s (omega (arith, l, ne)) here is
  ];
  only = before.only;
}

pub places_more : (rows : List Row) (n : ℕ) (r : Row) (old new : IdentityPlaces) → slice_get rows n ≡ Some r → is_identity r ≡ true → number_at old (ref_of r) ≡ None
    → ((other : IdentityRef) → number_at new other ≡ cond (is_at other (ref_of r)) (Some n) (number_at old other)) → PlacesFirst rows n old → PlacesFirst rows (n + 1) new
places_more rows n r old new at is none now before = record {
  found = λ k s l here one. elim (cases_eq k n) [
    | inl e ↦
        let same : s ≡ r = same_Some s r (sym here ∙ ap (slice_get rows) e ∙ at) in
        now (ref_of s) ∙ ap (λ b. cond b (Some n) (number_at old (ref_of s))) (same_place (ref_of s) (ref_of r) (ap ref_of same)) ∙ ap Some (sym e)
    | inr ne ↦
        let earlier : number_at old (ref_of s) ≡ Some k = before.found k s (omega (arith, l, ne)) here one in
        elim (cases_Bool (is_at (ref_of s) (ref_of r))) [
          | inl b ↦
              let clash : None ≡ Some k = sym none ∙ ap (number_at old) (sym (same_at (ref_of s) (ref_of r) b)) ∙ earlier in
              absurd (cc)
          | inr b ↦ now (ref_of s) ∙ ap (λ t. cond t (Some n) (number_at old (ref_of s))) b ∙ earlier
        ]
  ];
  only = λ place k h. elim (cases_Bool (is_at place (ref_of r))) [
    | inl b ↦
        let e : n ≡ k = same_Some n k (ap (λ t. cond t (Some n) (number_at old place)) (sym b) ∙ sym (now place) ∙ h) in
        (r, ap (slice_get rows) (sym e) ∙ at, is, sym (same_at place (ref_of r) b))
    | inr b ↦ before.only place k (ap (λ t. cond t (Some n) (number_at old place)) (sym b) ∙ sym (now place) ∙ h)
  ];
}

pub places_all : (rows : List Row) (n : ℕ) (places : IdentityPlaces) → n ≡ length rows → PlacesFirst rows n places → AreIdentityPlaces rows places
places_all rows n places e before = record {
  found = λ k r at is. before.found k r (omega (arith, e, slice_get_within rows k r at)) at is;
  only = before.only;
}

-- one identity at a place
pub one_there : (rows : List Row) (places : IdentityPlaces) → AreIdentityPlaces rows places → (i j : ℕ) (r s : Row) → slice_get rows i ≡ Some r → slice_get rows j ≡ Some s → is_identity r ≡ true → is_identity s ≡ true → ref_of r ≡ ref_of s → i ≡ j
one_there rows places are i j r s at here is one same = same_Some i j (sym (are.found i r at is) ∙ ap (number_at places) same ∙ are.found j s here one)
