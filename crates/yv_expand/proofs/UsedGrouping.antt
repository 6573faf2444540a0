-- The grouping that a statement uses.
use Rattle.std.proofs.Common.{◌≡◌, ◌↔◌, ℕ, ◌<◌, ◌≤◌, List, length, Option, Some, None, sym, ◌∙◌, arith}
use Rattle.std.specs.List.{slice_get}
use Rattle.std.proofs.lemmas.Option.{same_Some}
use Rattle.yv_link_scopes.specs.Files.{Briefs}
use Rattle.yv_link_scopes.specs.Rows.{Row}
use Rattle.yv_link_definitions.specs.Refers.{RefersTo}
use Rattle.yv_expand_statements.specs.Units.{units_of}
use Rattle.yv_expand.specs.InnerSteps.{IsUsed}
use Rattle.yv_expand.proofs.UnitWords.{meant_within}

module _ (files : Briefs) (rows : List Row) (k : ℕ) where
  abbrev pub Told : Option ℕ → Type 0
  Told o = (d : ℕ) → (o ≡ Some d) ↔ RefersTo files rows k d

  abbrev pub Uses : Option ℕ → Type 0
  Uses o = (d : ℕ) → (o ≡ Some d) ↔ IsUsed files rows k d

  pub used_some : (r : Row) (own m : ℕ) (o : Option ℕ) → slice_get rows k ≡ Some r → units_of r.head.keyword ≡ Some own → Told o → o ≡ Some m → Uses (Some m)
  used_some r own m o at units told is d = (
    λ e. (r, own, at, units, (told d).0 (is ∙ e)),
    λ h. sym is ∙ (told d).1 h.4,
  )

  pub used_past : (m : ℕ) (o : Option ℕ) → Told o → o ≡ Some m → length rows ≤ m → Uses None
  used_past m o told is past d = (
    λ e. absurd (let bad : None ≡ Some d = e in cc),
    λ h.
        let same : m ≡ d = same_Some m d (sym is ∙ (told d).1 h.4) in
        let within : d < length rows = meant_within files rows h.4.0 k d h.4.1 in
        absurd (omega (arith, same, within, past)),
  )

  pub used_none : (o p : Option ℕ) → Told o → o ≡ None → p ≡ None → Uses p
  used_none o p told is none d = (
    λ e. absurd (let bad : None ≡ Some d = sym none ∙ e in cc),
    λ h. absurd (let bad : None ≡ Some d = sym is ∙ (told d).1 h.4 in cc),
  )
