-- What is derived from all bases of a key.
use Rattle.std.proofs.Common.{◌≡◌, ℕ, ◌+◌, ◌<◌, ◌≤◌, ◌==◌, ◌&&◌, ◌↔◌, inl, inr, Bool, true, IsTrue, List, length, map, Option, Some, refl, sym, ◌∙◌, ap, subst, arith, eq-eqb}
use Rattle.std.proofs.lemmas.Bool.{cases_eq}
use Rattle.std.proofs.lemmas.Option.{same_Some, slice_get_read, slice_get_within, slice_get-map, get_or_from_slice_get}
use Rattle.std.specs.List.{slice_get, list_any, Contains}
use Rattle.std.specs.Option.{option_map}
use Rattle.yv_link_scopes.specs.Files.{Briefs}
use Rattle.yv_link_scopes.specs.Rows.{Row}
use Rattle.yv_link_identities.specs.References.{AreDescendants, is_at, ref_of, refs_of}
use Rattle.yv_link_identities.specs.declared.references.IdentityRef.{IdentityRef}
use Rattle.yv_type_identities.specs.Bases.{IsBelow}
use Rattle.yv_type_identities.specs.InnerBases.{IsBelowKey}
use Rattle.yv_type_identities.specs.InnerSets.{is_key}
use Rattle.yv_type_identities.proofs.PlaceSets.{same_at}
use Rattle.yv_type_identities.proofs.RowLoop.{both, both_true, found, finds, mapped}

pub same_place : (place ref : IdentityRef) → place ≡ ref → is_at place ref ≡ true
same_place place ref e =
    both_true (ref.file == place.file) (ref.offset == place.offset)
    (eq-eqb ref.file place.file (ap (λ (r : IdentityRef). r.file) (sym e)))
    (eq-eqb ref.offset place.offset (ap (λ (r : IdentityRef). r.offset) (sym e)))

-- the place that a file and an offset are
abbrev pub ref_at : ℕ × ℕ → IdentityRef
ref_at k = record { file = k.0; offset = k.1 }

pub named : (base : IdentityRef) (k : ℕ × ℕ) → is_key base k ≡ true → base ≡ ref_at k
named base k h = sym (same_at (ref_at k) base h)

names_itself : (k : ℕ × ℕ) → is_key (ref_at k) k ≡ true
names_itself k = same_place (ref_at k) (ref_at k) refl

module _ (files : Briefs) (rows : List Row) where
  abbrev referred : ℕ → Option IdentityRef
  referred k = option_map ref_of (slice_get rows k)

  pub below_found : (base place : IdentityRef) (refs : List IdentityRef) → AreDescendants files rows base refs → list_any (is_at place) refs ≡ true → IsBelow files rows place base
  below_found base place refs d h =
      let f = found (is_at place) refs h in
      let left : slice_get (map Some refs) f.0 ≡ Some (Some f.1) = slice_get-map Some refs f.0 ∙ ap (option_map Some) f.2 in
      let right : option_map referred (slice_get d.numbers f.0) ≡ Some (Some f.1) = sym (slice_get-map referred d.numbers f.0) ∙ ap (λ xs. slice_get xs f.0) (sym d.each) ∙ left in
      let number = mapped referred (slice_get d.numbers f.0) (Some f.1) right in
      let own = mapped ref_of (slice_get rows number.0) f.1 number.2 in
      let descended = (d.exact number.0).0 (f.0, slice_get_within d.numbers f.0 number.0 number.1, get_or_from_slice_get d.numbers f.0 number.0 number.0 number.1) in
      record {
        number = number.0;
        statement = own.0;
        stands = own.1;
        is_there = own.2 ∙ sym (same_at place f.1 f.3);
        base_number = descended.0;
        base_meant = descended.1;
        derived = descended.2;
      }

  pub found_below : (base place : IdentityRef) (refs : List IdentityRef) → AreDescendants files rows base refs → IsBelow files rows place base → list_any (is_at place) refs ≡ true
  found_below base place refs d b =
      let has : Contains d.numbers b.number = (d.exact b.number).1 (b.base_number, b.base_meant, b.derived) in
      let at : slice_get d.numbers has.0 ≡ Some b.number = slice_get_read d.numbers (length d.numbers) has.0 b.number refl has.1 (sym has.2) in
      let right : slice_get (refs_of rows d.numbers) has.0 ≡ Some (Some (ref_of b.statement)) = slice_get-map referred d.numbers has.0 ∙ ap (option_map referred) at ∙ ap (λ o. Some (option_map ref_of o)) b.stands in
      let left : option_map Some (slice_get refs has.0) ≡ Some (Some (ref_of b.statement)) = sym (slice_get-map Some refs has.0) ∙ ap (λ xs. slice_get xs has.0) d.each ∙ right in
      let ref = mapped Some (slice_get refs has.0) (Some (ref_of b.statement)) left in
      let same : ref.0 ≡ ref_of b.statement = same_Some ref.0 (ref_of b.statement) ref.2 in
      finds (is_at place) refs has.0 ref.0 ref.1 (same_place place ref.0 (sym b.is_there ∙ sym same))

  module _ (key : List (ℕ × ℕ)) where
    abbrev BelowFirst : ℕ → IdentityRef → Type 0
    BelowFirst n place = (c : ℕ) (k : ℕ × ℕ) (base : IdentityRef) → c < n → slice_get key c ≡ Some k → is_key base k ≡ true → IsBelow files rows place base

    -- those are left that are derived from the first bases of the key
    abbrev pub Leaving : ℕ → (IdentityRef → Bool) → Type 0
    Leaving n left = (place : IdentityRef) → IsTrue (left place) ↔ BelowFirst n place

    pub leaving_none : (left : IdentityRef → Bool) → ((place : IdentityRef) → left place ≡ true) → Leaving 0 left
    leaving_none left all place = (λ h c k base l. absurd (omega (arith, l)), λ h. all place)

    pub leaving_base : (n : ℕ) (k : ℕ × ℕ) (base : IdentityRef) (refs : List IdentityRef) (old new : IdentityRef → Bool) → slice_get key n ≡ Some k → base ≡ ref_at k → AreDescendants files rows base refs → ((place : IdentityRef) → new place ≡ (old place && list_any (is_at place) refs)) → Leaving n old → Leaving (n + 1) new
    leaving_base n k base refs old new at is d now before place = (
      λ h c j b l stands names.
          let p = both (old place) (list_any (is_at place) refs) (sym (now place) ∙ h) in
          elim (cases_eq c n) [
            | inl e ↦
                let same : j ≡ k = same_Some j k (sym stands ∙ ap (slice_get key) e ∙ at) in
                let one : b ≡ base = named b j names ∙ ap ref_at same ∙ sym is in
                subst (IsBelow files rows place) (sym one) (below_found base place refs d p.1)
            | inr ne ↦ (before place).0 p.0 c j b (omega (arith, l, ne)) stands names
          ],
      λ h.
          now place
          ∙ both_true (old place) (list_any (is_at place) refs)
          ((before place).1 (λ c j b l stands names. h c j b (omega (arith, l)) stands names))
          (found_below base place refs d (h n k base (omega arith) at (ap (λ (r : IdentityRef). is_key r k) is ∙ names_itself k))),
    )

    pub leaving_all : (n : ℕ) (left : IdentityRef → Bool) → length key ≤ n → Leaving n left → (place : IdentityRef) → IsTrue (left place) ↔ IsBelowKey files rows key place
    leaving_all n left e before place = (
      λ h base some.
          let f = found (is_key base) key some in
          (before place).0 h f.0 f.1 base (omega (arith, e, slice_get_within key f.0 f.1 f.2)) f.2 f.3,
      λ h. (before place).1 (λ c k base l stands names. h base (finds (is_key base) key c k stands names)),
    )
