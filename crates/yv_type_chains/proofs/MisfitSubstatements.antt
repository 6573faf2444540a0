-- Substatements that types don't take, or need.
use Rattle.std.proofs.Common.{◌≡◌, ℕ, ◌≤◌, ◌↔◌, ◌⊎◌, inl, inr, Bool, false, IsTrue, List, length, sym, ◌∙◌, ap, arith, Option, Some, None}
use Rattle.std.specs.List.{slice_get}
use Rattle.std.specs.Str.{bytes_eq}
use Rattle.std.proofs.lemmas.Bool.{false≢true}
use Rattle.std.proofs.lemmas.Option.{same_Some, slice_get_within}
use Rattle.std.proofs.lemmas.Slice.Eq.{bytes_eq-Decides}
use Rattle.yv_link_scopes.specs.Files.{Briefs}
use Rattle.yv_link_scopes.specs.Rows.{Row, name_in}
use Rattle.yv_type_chains.specs.Kinds.{is_foreign}
use Rattle.yv_type_chains.specs.Types.{HasKind}
use Rattle.yv_type_chains.specs.Refusals.{IsMisfit, foreign, not_inheritable}
use Rattle.yv_type_chains.specs.InnerMarks.{IsForeign, IsInherited, Passes}
use Rattle.yv_base_tables.specs.Slots.{at}
use Rattle.yv_type_chains.specs.InnerTables.{AreBased}

no_text : (t : List ℕ) → None ≡ Some t → ⊥
no_text t e = cc

pub passes_here : (test : Row → Bool) (rows : List Row) (k : ℕ) (r : Row) (b : Bool) → slice_get rows k ≡ Some r → b ≡ test r → IsTrue b ↔ Passes test rows k
passes_here test rows k r b at e = (
  λ h. (r, at, sym e ∙ h),
  λ p. e ∙ ap test (same_Some r p.0 (sym at ∙ p.1)) ∙ p.2,
)

pub passes_past : (test : Row → Bool) (rows : List Row) (k : ℕ) → length rows ≤ k → IsTrue false ↔ Passes test rows k
passes_past test rows k past = (λ h. absurd (false≢true h), λ p. absurd (let w = slice_get_within rows k p.0 p.1 in omega (arith, w, past)))

module _ (files : Briefs) (rows : List Row) where
  pub kind_some : (bases : List (Option ℕ)) (k b : ℕ) (r : Row) (t : List ℕ) → AreBased files rows bases → at bases k ≡ Some b → slice_get rows b ≡ Some r → t ≡ name_in r → (name : List ℕ) → (◌≡◌ {A = Option (List ℕ)} (Some t) (Some name)) ↔ HasKind files rows k name
  kind_some bases k b r t based is here e name = (
    λ h. record { base = b; leads = (based k b).0 is; statement = r; at = here; named = sym e ∙ same_Some {A = List ℕ} t name h },
    λ h.
        let same : b ≡ h.base = same_Some b h.base (sym is ∙ (based k h.base).1 h.leads) in
        let one : r ≡ h.statement = same_Some r h.statement (sym here ∙ ap (slice_get rows) same ∙ h.at) in
        ap Some (e ∙ ap name_in one ∙ h.named),
  )

  module _ (k : ℕ) (o : Option (List ℕ)) (told : (name : List ℕ) → (o ≡ Some name) ↔ HasKind files rows k name) where
    pub foreign_some : (t word : List ℕ) (b : Bool) → o ≡ Some t → b ≡ is_foreign t word → IsTrue b ↔ IsForeign files rows k word
    foreign_some t word b is e = (
      λ h. (t, (told t).0 is, sym e ∙ h),
      λ p. e ∙ ap (λ x. is_foreign x word) (same_Some t p.0 (sym is ∙ (told p.0).1 p.1)) ∙ p.2,
    )

    pub foreign_none : (word : List ℕ) → o ≡ None → IsTrue false ↔ IsForeign files rows k word
    foreign_none word is = (λ h. absurd (false≢true h), λ p. absurd (no_text p.0 (sym is ∙ (told p.0).1 p.1)))

    pub kind_is : (t name : List ℕ) (b : Bool) → o ≡ Some t → b ≡ bytes_eq t name → IsTrue b ↔ HasKind files rows k name
    kind_is t name b is e = (
      λ h. (told name).0 (is ∙ ap Some ((bytes_eq-Decides t name).0 (sym e ∙ h))),
      λ p. e ∙ (bytes_eq-Decides t name).1 (same_Some {A = List ℕ} t name (sym is ∙ (told name).1 p)),
    )

    pub kind_none : (name : List ℕ) → o ≡ None → IsTrue false ↔ HasKind files rows k name
    kind_none name is = (λ h. absurd (false≢true h), λ p. absurd (no_text name (sym is ∙ (told name).1 p)))

  -- the two ways not to be taken
  pub misfit_of : (k : ℕ) (s : Row) → IsInherited rows k s.head.keyword ⊎ IsForeign files rows k s.head.keyword → IsMisfit files rows k s
  misfit_of k s (inl h) = not_inheritable h.0.1 h.0.2 h.1
  misfit_of k s (inr h) = foreign h.1 h.2

  pub misfit_by : (k : ℕ) (s : Row) → IsMisfit files rows k s → IsInherited rows k s.head.keyword ⊎ IsForeign files rows k s.head.keyword
  misfit_by k s (foreign {kind = kind} h f) = inr (kind, h, f)
  misfit_by k s (not_inheritable {r = r} here d f) = inl ((r, here, d), f)
