-- A type says one thing as a leafref.
use Rattle.std.proofs.Common.{◌≡◌, ℕ, ◌&&◌, not, ◌⊎◌, inl, inr, Bool, true, false, List, map, refl, sym, ◌∙◌, ap, subst, Option, Some, None, codes}
use Rattle.std.specs.Option.{option_map}
use Rattle.std.specs.Str.{bytes_eq}
use Rattle.std.proofs.lemmas.Bool.{false≢true}
use Rattle.std.proofs.lemmas.Option.{same_Some}
use Rattle.std.proofs.lemmas.Slice.Eq.{bytes_eq-Decides}
use Rattle.yv_link_scopes.specs.Files.{Briefs, Files, brief_of}
use Rattle.yv_link_scopes.specs.Rows.{Row, name_in}
use Rattle.yv_link_scopes.specs.RowList.{rows_of}
use Rattle.yv_link_definitions.specs.BuiltIn.{is_built_in}
use Rattle.yv_link_definitions.specs.Refers.{is_type}
use Rattle.yv_type_chains.specs.Types.{Follows, is_leafref}
use Rattle.yv_types.specs.Referrals.{FollowsIn, HasReferral, IsLeafrefAt, built_in, through_typedef, derived_at, other, own_at}
use Rattle.yv_types.specs.declared.leafref_path.TypeLeafref.{TypeLeafref}

pub both_true : (a b : Bool) → (a && b) ≡ true → (a ≡ true) × (b ≡ true)
both_true true b h = (refl, h)
both_true false b h = cc

leafref_built_in : (r : Row) → is_leafref r ≡ true → is_built_in (name_in r) ≡ true
unfolding is_built_in
leafref_built_in r h = rw ((bytes_eq-Decides (name_in r) (codes "leafref")).0 (both_true (is_type r) (bytes_eq (name_in r) (codes "leafref")) h).1) refl

not_both : (b : Bool) → b ≡ true → not b ≡ true → ⊥
not_both true h g = false≢true g
not_both false h g = false≢true h

-- a type that names leafref itself follows none
pub leafref_apart : (files : Files) (k j : ℕ) → IsLeafrefAt files k → FollowsIn files k j → ⊥
leafref_apart files k j (r, at, is) f =
    let same : f.refers.statement ≡ r = same_Some f.refers.statement r (sym f.refers.at ∙ at) in
    let named : is_built_in (name_in f.refers.statement) ≡ true = ap (λ (s : Row). is_built_in (name_in s)) same ∙ leafref_built_in r is in
    not_both (is_built_in (name_in f.refers.statement)) named (both_true (is_type f.refers.statement) (not (is_built_in (name_in f.refers.statement))) f.refers.names).1

abbrev pub FollowsOne : Type 0
FollowsOne = (files : Briefs) (rows : List Row) (k i j : ℕ) → Follows files rows k i → Follows files rows k j → i ≡ j

module _ (files : Files) where
  -- how a type says something
  abbrev By : ℕ → Option TypeLeafref → Type 0
  By k w =
      (IsLeafrefAt files k × (w ≡ Some (own_at files k)))
      ⊎ (((j : ℕ) × (found : Option TypeLeafref) × FollowsIn files k j × HasReferral files j found × (w ≡ option_map (derived_at files k) found))
      ⊎ ((IsLeafrefAt files k → ⊥) × ((j : ℕ) → FollowsIn files k j → ⊥) × (w ≡ None)))

  said_by : {k : ℕ} {w : Option TypeLeafref} → HasReferral files k w → By k w
  said_by (built_in l) = inl (l, refl)
  said_by (through_typedef {j = j} {found = found} f h) = inr (inl (j, found, f, h, refl))
  said_by (other out none) = inr (inr (out, none, refl))

  pub said_once : FollowsOne → {k : ℕ} {v : Option TypeLeafref} (w : Option TypeLeafref) → HasReferral files k v → HasReferral files k w → v ≡ w
  said_once one w (built_in {k = k} l) h = elim (said_by h) [
    | inl p ↦ sym p.1
    | inr (inl p) ↦ absurd (leafref_apart files k p.0 l p.2)
    | inr (inr p) ↦ absurd (p.0 l)
  ]
  said_once one w (through_typedef {k = k} {j = j} f rest) h = elim (said_by h) [
    | inl p ↦ absurd (leafref_apart files k j p.0 f)
    | inr (inl p) ↦
        let same : p.0 ≡ j = one (map brief_of files) (rows_of files) k p.0 j p.2 f in
        ap (option_map (derived_at files k)) (said_once one p.1 rest (subst (λ i. HasReferral files i p.1) same p.3)) ∙ sym p.4
    | inr (inr p) ↦ absurd (p.1 j f)
  ]
  said_once one w (other out none) h = elim (said_by h) [
    | inl p ↦ absurd (out p.0)
    | inr (inl p) ↦ absurd (none p.0 p.2)
    | inr (inr p) ↦ sym p.2
  ]

  -- the origin, if there is one, is a leafref
  abbrev pub IsFromLeafref : Option TypeLeafref → Type 0
  IsFromLeafref None = Unit {0}
  IsFromLeafref (Some r) = IsLeafrefAt files r.origin

  still_from : (k : ℕ) (o : Option TypeLeafref) → IsFromLeafref o → IsFromLeafref (option_map (derived_at files k) o)
  still_from k None h = tt
  still_from k (Some r) h = h

  pub from_leafref : {k : ℕ} {w : Option TypeLeafref} → HasReferral files k w → IsFromLeafref w
  from_leafref (built_in l) = l
  from_leafref (through_typedef {k = k} {found = found} f h) = still_from k found (from_leafref h)
  from_leafref (other out none) = tt

  pub base_path : FollowsOne → (k j : ℕ) (r q : TypeLeafref) → FollowsIn files k j → HasReferral files k (Some r) → HasReferral files j (Some q) → r.origin ≡ q.origin
  base_path one k j r q f h g = ap (λ (x : TypeLeafref). x.origin) (sym (same_Some (derived_at files k q) r (said_once one (Some r) (through_typedef f g) h)))
