-- References to definitions, by the numbers of these.
use Rattle.std.proofs.Common.{◌≡◌, ℕ, ◌+◌, ◌<◌, inl, inr, Bool, true, false, List, Some, refl, sym, ◌∙◌, ap, arith}
use Rattle.std.specs.List.{slice_get}
use Rattle.std.specs.Ordering.{nat_cmp, is_eq}
use Rattle.std.specs.Cmp.{Equal-is}
use Rattle.std.specs.BTreeMap.{BTreeMap, Updates}
use Rattle.std.proofs.lemmas.Bool.{cases_lt, false≢true}
use Rattle.std.proofs.lemmas.Map.Lookups.{exact_unsigned}
use Rattle.std.proofs.lemmas.Option.{same_Some}
use Rattle.yv_link_scopes.specs.Rows.{Row}
use Rattle.yv_link_definitions.specs.References.{ref_of}
use Rattle.yv_link_definitions.specs.InnerPlaces.{ReferToFirst, is_definition, ref_in}
use Rattle.yv_link_definitions.specs.declared.references.DefRef.{DefRef}

apart : (n d : ℕ) → d < n → is_eq (nat_cmp n d) ≡ false
apart n d low = by (is_eq (nat_cmp n d)) refl
  where
    by : (b : Bool) → is_eq (nat_cmp n d) ≡ b → b ≡ false
    by false e = refl
    by true e = let same : n ≡ d = exact_unsigned n d ((Equal-is (nat_cmp n d)).0 e) in absurd (omega (arith, low, same))

module _ (rows : List Row) (n : ℕ) (old : BTreeMap ℕ DefRef) (r : Row) (here : slice_get rows n ≡ Some r) (before : ReferToFirst rows n old) where
  same_row : (d : ℕ) (s : Row) → slice_get rows d ≡ Some s → d ≡ n → s ≡ r
  same_row d s at same = same_Some s r (sym at ∙ ap (slice_get rows) same ∙ here)

  -- one more statement, which is no definition
  pub defined_other : is_definition r ≡ false → ReferToFirst rows (n + 1) old
  defined_other out = λ d s l at is. elim (cases_lt d n) [
    | inl low ↦ before d s low at is
    | inr up ↦
        let one : s ≡ r = same_row d s at (omega (arith, l, up)) in
        absurd (false≢true (sym out ∙ ap is_definition (sym one) ∙ is))
  ]

  -- one more definition
  pub defined_more : (new : BTreeMap ℕ DefRef) (ref : DefRef) → ref ≡ ref_of r → Updates nat_cmp old new n (Some ref) → ReferToFirst rows (n + 1) new
  defined_more new ref to u = λ d s l at is. elim (cases_lt d n) [
    | inl low ↦ u.2 d (apart n d low) ∙ before d s low at is
    | inr up ↦
        let same : d ≡ n = omega (arith, l, up) in
        ap (ref_in new) same ∙ u.1 ∙ ap Some (to ∙ ap ref_of (sym (same_row d s at same)))
  ]
