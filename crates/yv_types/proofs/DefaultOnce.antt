-- A type has one default.
use Rattle.std.proofs.Common.{◌≡◌, ℕ, ◌⊎◌, inl, inr, List, map, refl, sym, ◌∙◌, ap, subst, Option, Some, None}
use Rattle.std.proofs.lemmas.Option.{same_Some}
use Rattle.yv_link_scopes.specs.Files.{Briefs, Files, brief_of}
use Rattle.yv_link_scopes.specs.Rows.{Row, name_in}
use Rattle.yv_link_scopes.specs.RowList.{rows_of}
use Rattle.yv_link_scopes.specs.Scopes.{MeansIn}
use Rattle.yv_link_scopes.specs.declared.kind.NameKind.TheVariants.{Typedef}
use Rattle.yv_type_chains.proofs.Once.{MeansOne}
use Rattle.yv_type_chains.specs.Types.{type_of}
use Rattle.yv_text_statement.specs.TextInFile.{TextInFile}
use Rattle.yv_types.specs.Defaults.{HasDefault, Means, default_at, no_typedef, nearest, further, no_type}

none_some : {A : Type 0} (x : A) → None ≡ Some x → ⊥
none_some x e = cc

module _ (one : MeansOne) (files : Files) where
  means_once : (k d e : ℕ) → Means files k d → Means files k e → d ≡ e
  means_once k d e f g =
      let briefs : Briefs = map brief_of files in
      let rows : List Row = rows_of files in
      let row : f.statement ≡ g.statement = same_Some f.statement g.statement (sym f.at ∙ g.at) in
      let means : MeansIn briefs rows Typedef k (name_in g.statement) (Some d) = subst (λ (x : Row). MeansIn briefs rows Typedef k (name_in x) (Some d)) row f.means in
      same_Some d e (one briefs rows Typedef k (name_in g.statement) (Some d) (Some e) means g.means)

  -- what names nothing has none
  none_by : {k : ℕ} {w : Option TextInFile} → ((d : ℕ) → Means files k d → ⊥) → HasDefault files k w → None ≡ w
  none_by none (no_typedef e) = refl
  none_by none (nearest {d = d} m is) = absurd (none d m)
  none_by none (further {d = d} m is at h) = absurd (none d m)
  none_by none (no_type {d = d} m is at) = absurd (none d m)

  -- what a type that names this typedef has
  abbrev By : ℕ → Option TextInFile → Type 0
  By d w =
      ((x : TextInFile) × (default_at files d ≡ Some x) × (w ≡ Some x))
      ⊎ (((j : ℕ) × (default_at files d ≡ None) × (type_of (rows_of files) d ≡ Some j) × HasDefault files j w)
      ⊎ ((default_at files d ≡ None) × (type_of (rows_of files) d ≡ None) × (w ≡ None)))

  default_by : {k : ℕ} {w : Option TextInFile} (d : ℕ) → Means files k d → HasDefault files k w → By d w
  default_by d m (no_typedef none) = absurd (none d m)
  default_by {k} d m (nearest {d = e} {w = x} n is) = inl (x, ap (default_at files) (means_once k d e m n) ∙ is, refl)
  default_by {k} d m (further {d = e} {j = j} n none at h) =
      let same : d ≡ e = means_once k d e m n in
      inr (inl (j, ap (default_at files) same ∙ none, ap (type_of (rows_of files)) same ∙ at, h))
  default_by {k} d m (no_type {d = e} n none at) =
      let same : d ≡ e = means_once k d e m n in
      inr (inr (ap (default_at files) same ∙ none, ap (type_of (rows_of files)) same ∙ at, refl))

  pub default_once : {k : ℕ} {v : Option TextInFile} (w : Option TextInFile) → HasDefault files k v → HasDefault files k w → v ≡ w
  default_once w (no_typedef none) h = none_by none h
  default_once w (nearest {d = d} {w = x} m is) h = elim (default_by d m h) [
    | inl p ↦ sym is ∙ p.1 ∙ sym p.2
    | inr (inl p) ↦ absurd (none_some x (sym p.1 ∙ is))
    | inr (inr p) ↦ absurd (none_some x (sym p.0 ∙ is))
  ]
  default_once w (further {d = d} {j = j} m none at rest) h = elim (default_by d m h) [
    | inl p ↦ absurd (none_some p.0 (sym none ∙ p.1))
    | inr (inl p) ↦ default_once w rest (subst (λ i. HasDefault files i w) (same_Some p.0 j (sym p.2 ∙ at)) p.3)
    | inr (inr p) ↦ absurd (none_some j (sym p.1 ∙ at))
  ]
  default_once w (no_type {d = d} m none at) h = elim (default_by d m h) [
    | inl p ↦ absurd (none_some p.0 (sym none ∙ p.1))
    | inr (inl p) ↦ absurd (none_some p.0 (sym at ∙ p.2))
    | inr (inr p) ↦ sym p.2
  ]
