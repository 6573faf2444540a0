-- The bases in each block, as they are listed statement by statement.
use Rattle.std.proofs.Common.{◌≡◌, ◌≢◌, ℕ, ◌+◌, ◌<◌, ◌||◌, ◌↔◌, ◌++◌, ◌∷◌, [], inl, inr, Bool, true, false, IsTrue, cond, List, length, Vec, None, Some, refl, sym, ◌∙◌, ap, arith}
use Rattle.std.specs.List.{slice_get, list_any}
use Rattle.std.specs.declared.alloc.Global.{Global}
use Rattle.std.proofs.lemmas.Bool.{cases_eq}
use Rattle.std.proofs.lemmas.List.Folds.{list_any-append}
use Rattle.std.proofs.lemmas.Option.{same_Some, slice_get_within}
use Rattle.yv_link_scopes.specs.Files.{Briefs}
use Rattle.yv_link_scopes.specs.Rows.{Row, name_in}
use Rattle.yv_link_identities.specs.Names.{is_base}
use Rattle.yv_link_identities.specs.References.{is_at, reference_of}
use Rattle.yv_link_identities.specs.declared.references.IdentityRef.{IdentityRef}
use Rattle.yv_type_identities.specs.Bases.{NamesBase}
use Rattle.yv_type_identities.specs.InnerBases.{base_of, bases_at}
use Rattle.yv_type_identities.proofs.Below.{same_place}
use Rattle.yv_type_identities.proofs.ListMembers.{any_one, split, left_true, right_true}
use Rattle.yv_type_identities.proofs.PlaceSets.{same_at}

module _ (files : Briefs) (rows : List Row) where
  abbrev NamedFirst : ℕ → ℕ → IdentityRef → Type 0
  NamedFirst n block base = (i : ℕ) × (s : Row) × (i < n) × (slice_get rows i ≡ Some s) × (s.scope ≡ block) × (base_of files rows s ≡ Some base)

  -- the lists have the bases of the first statements
  abbrev pub Listed : ℕ → List (Vec IdentityRef Global) → Type 0
  Listed n lists = (block : ℕ) (base : IdentityRef) → IsTrue (list_any (is_at base) (bases_at lists block)) ↔ NamedFirst n block base

  none_in : (bases : List IdentityRef) (base : IdentityRef) → bases ≡ [] → list_any (is_at base) bases ≡ false
  none_in bases base e = ap (list_any (is_at base)) e

  pub listed_none : (lists : List (Vec IdentityRef Global)) → ((k : ℕ) → bases_at lists k ≡ []) → Listed 0 lists
  listed_none lists none block base = (
    λ h. let clash : true ≡ false = sym h ∙ none_in (bases_at lists block) base (none block) in cc,
    λ h. absurd (omega (arith, h.2)),
  )

  -- one more statement, which gives no base
  pub listed_same : (n : ℕ) (s : Row) (lists : List (Vec IdentityRef Global)) → slice_get rows n ≡ Some s → base_of files rows s ≡ None → Listed n lists → Listed (n + 1) lists
  listed_same n s lists at isnt before block base = (
    λ h. let p = (before block base).0 h in (p.0, p.1, let l : p.0 < n + 1 = omega (arith, p.2) in l, p.3, p.4, p.5),
    λ h. elim (cases_eq h.0 n) [
      | inl e ↦
          let same : h.1 ≡ s = same_Some h.1 s (sym h.3 ∙ ap (slice_get rows) e ∙ at) in
          let none : Some base ≡ None = sym h.5 ∙ ap (base_of files rows) same ∙ isnt in
          cc
      | inr ne ↦ (before block base).1 (h.0, h.1, let l : h.0 < n = omega (arith, h.2, ne) in l, h.3, h.4, h.5)
    ],
  )

  -- one more base
  pub listed_more : (n : ℕ) (s : Row) (own : IdentityRef) (old new : List (Vec IdentityRef Global)) → slice_get rows n ≡ Some s → base_of files rows s ≡ Some own → bases_at new s.scope ≡ bases_at old s.scope ++ own ∷ [] → ((k : ℕ) → k ≢ s.scope → bases_at new k ≡ bases_at old k) → Listed n old → Listed (n + 1) new
  listed_more n s own old new at is here else_where before block base = elim (cases_eq block s.scope) [
    | inl same ↦
        let bases : List IdentityRef = bases_at old block in
        let sum : list_any (is_at base) (bases_at new block) ≡ (list_any (is_at base) bases || is_at base own) =
        ap (λ k. list_any (is_at base) (bases_at new k)) same
        ∙ ap (list_any (is_at base)) here
        ∙ ap (λ k. list_any (is_at base) (bases_at old k ++ own ∷ [])) (sym same)
        ∙ list_any-append (is_at base) bases (own ∷ [])
        ∙ ap (λ b. list_any (is_at base) bases || b) (any_one (is_at base) own) in (
          λ h. elim (split (list_any (is_at base) bases) (is_at base own) (sym sum ∙ h)) [
            | inl earlier ↦ let p = (before block base).0 earlier in (p.0, p.1, let l : p.0 < n + 1 = omega (arith, p.2) in l, p.3, p.4, p.5)
            | inr it ↦ (n, s, let l : n < n + 1 = omega arith in l, at, sym same, is ∙ ap Some (sym (same_at base own it)))
          ],
          λ h. sum ∙ elim (cases_eq h.0 n) [
            | inl e ↦
                let row : h.1 ≡ s = same_Some h.1 s (sym h.3 ∙ ap (slice_get rows) e ∙ at) in
                let one : base ≡ own = same_Some base own (sym h.5 ∙ ap (base_of files rows) row ∙ is) in
                right_true (list_any (is_at base) bases) (is_at base own) (same_place base own one)
            | inr ne ↦ left_true (list_any (is_at base) bases) (is_at base own) ((before block base).1 (h.0, h.1, let l : h.0 < n = omega (arith, h.2, ne) in l, h.3, h.4, h.5))
          ],
        )
    | inr other ↦
        let same : list_any (is_at base) (bases_at new block) ≡ list_any (is_at base) (bases_at old block) = ap (list_any (is_at base)) (else_where block other) in (
          λ h. let p = (before block base).0 (sym same ∙ h) in (p.0, p.1, let l : p.0 < n + 1 = omega (arith, p.2) in l, p.3, p.4, p.5),
          λ h. same ∙ elim (cases_eq h.0 n) [
            | inl e ↦
                let row : h.1 ≡ s = same_Some h.1 s (sym h.3 ∙ ap (slice_get rows) e ∙ at) in
                absurd (other (sym h.4 ∙ ap (λ (r : Row). r.scope) row))
            | inr ne ↦ (before block base).1 (h.0, h.1, let l : h.0 < n = omega (arith, h.2, ne) in l, h.3, h.4, h.5)
          ],
        )
  ]

  pub means : (s : Row) (base : IdentityRef) (b : Bool) → is_base s ≡ b → cond b (reference_of files rows s.file (name_in s)) None ≡ Some base → (is_base s ≡ true) × (reference_of files rows s.file (name_in s) ≡ Some base)
  means s base true e h = (e, h)
  means s base false e h = cc

  pub listed_all : (n : ℕ) (lists : List (Vec IdentityRef Global)) → n ≡ length rows → Listed n lists → (block : ℕ) (base : IdentityRef)
      → IsTrue (list_any (is_at base) (bases_at lists block)) ↔ NamesBase files rows block base
  listed_all n lists e before block base = (
    λ h.
        let p = (before block base).0 h in
        let m = means p.1 base (is_base p.1) refl p.5 in
        record { number = p.0; statement = p.1; stands = p.3; names = m.0; inside = p.4; means = m.1 },
    λ h. (before block base).1 (
      h.number,
      h.statement,
      let l : h.number < n = omega (arith, e, slice_get_within rows h.number h.statement h.stands) in l,
      h.stands,
      h.inside,
      ap (λ b. cond b (reference_of files rows h.statement.file (name_in h.statement)) None) h.names ∙ h.means,
    ),
  )
