-- What a type says as a leafref, by what it follows.
use Rattle.std.proofs.Common.{◌≡◌, ℕ, ◌↔◌, Bool, true, false, sym, ◌∙◌, ap, subst, Option, Some, None}
use Rattle.std.specs.List.{slice_get}
use Rattle.std.specs.Option.{option_map}
use Rattle.std.proofs.lemmas.Bool.{false≢true}
use Rattle.std.proofs.lemmas.Option.{same_Some}
use Rattle.yv_link_scopes.specs.Files.{Files}
use Rattle.yv_link_scopes.specs.Rows.{Row}
use Rattle.yv_link_scopes.specs.RowList.{rows_of}
use Rattle.yv_type_chains.specs.Types.{is_leafref}
use Rattle.yv_types.specs.Referrals.{FollowsIn, HasReferral, IsLeafrefAt, built_in, through_typedef, derived_at, other, own_at}
use Rattle.yv_types.specs.declared.leafref_path.TypeLeafref.{TypeLeafref}

none_some : {A : Type 0} (x : A) → None ≡ Some x → ⊥
none_some x e = cc

module _ (files : Files) (k : ℕ) where
  pub leafref_here : (r : Row) (b : Bool) → Some r ≡ slice_get (rows_of files) k → b ≡ is_leafref r → (b ≡ true) ↔ IsLeafrefAt files k
  leafref_here r b at e = (
    λ h. (r, sym at, sym e ∙ h),
    λ l. e ∙ ap is_leafref (same_Some r l.0 (at ∙ l.1)) ∙ l.2,
  )

  pub leafref_nowhere : None ≡ slice_get (rows_of files) k → (false ≡ true) ↔ IsLeafrefAt files k
  leafref_nowhere at = (
    λ h. absurd (false≢true h),
    λ l. absurd (none_some l.0 (at ∙ l.1)),
  )

  pub found_own : (r : TypeLeafref) → IsLeafrefAt files k → r ≡ own_at files k → HasReferral files k (Some r)
  found_own r l e = subst (λ (x : TypeLeafref). HasReferral files k (Some x)) (sym e) (built_in l)

  pub found_derived : (j : ℕ) (o result : Option TypeLeafref) → FollowsIn files k j → HasReferral files j o → option_map (derived_at files k) o ≡ result → HasReferral files k result
  found_derived j o result f h e = subst (HasReferral files k) e (through_typedef f h)

  -- it names neither leafref nor a typedef with a type
  pub found_none : (b : Bool) (followed : Option ℕ) (nothing : Option TypeLeafref) → (b ≡ true) ↔ IsLeafrefAt files k → b ≡ false → ((j : ℕ) → (followed ≡ Some j) ↔ FollowsIn files k j) → followed ≡ None → nothing ≡ None → HasReferral files k nothing
  found_none b followed nothing is out follows ends e =
      subst (HasReferral files k) (sym e) (other (λ l. false≢true (sym out ∙ is.1 l)) (λ j f. none_some j (sym ends ∙ (follows j).1 f)))
