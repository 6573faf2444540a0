-- Marks on the blocks in which statements stand.
use Rattle.std.proofs.Common.{◌≡◌, ◌≢◌, ℕ, ◌+◌, ◌<◌, ◌≤◌, ◌↔◌, inl, inr, Bool, true, false, List, length, sym, ◌∙◌, ap, subst, arith, Some}
use Rattle.std.specs.List.{slice_get}
use Rattle.std.proofs.lemmas.Bool.{cases_eq, cases_lt, false≢true}
use Rattle.std.proofs.lemmas.Option.{same_Some, slice_get_within}
use Rattle.yv_link_scopes.specs.Rows.{Row}
use Rattle.yv_type_chains.specs.Refusals.{IsChild}
use Rattle.yv_base_graph.specs.Marks.{is_marked}
use Rattle.yv_type_chains.specs.InnerMarks.{AreMarked}

abbrev pub HasChild : (ℕ → Row → Type 0) → List Row → ℕ → ℕ → Type 0
HasChild P rows n k = (c : ℕ) × (s : Row) × (c < n) × IsChild rows k c s × P k s

abbrev pub MarkedUpTo : (ℕ → Row → Type 0) → List Row → ℕ → List Bool → Type 0
MarkedUpTo P rows n marks = (k : ℕ) → (is_marked marks k ≡ true) ↔ HasChild P rows n k

module _ (P : ℕ → Row → Type 0) (rows : List Row) where
  pub marked_none : (marks : List Bool) → ((k : ℕ) → is_marked marks k ≡ false) → MarkedUpTo P rows 0 marks
  marked_none marks none k = (λ e. absurd (false≢true (sym (none k) ∙ e)), λ h. absurd (omega (arith, h.2)))

  -- one more statement, of which P doesn't hold
  pub marked_other : (n : ℕ) (r : Row) (marks : List Bool) → slice_get rows n ≡ Some r → (P r.scope r → ⊥) → MarkedUpTo P rows n marks → MarkedUpTo P rows (n + 1) marks
  marked_other n r marks at out old k = (
    λ e. let p = (old k).0 e in (p.0, p.1, omega (arith, p.2), p.3, p.4),
    λ h. elim (cases_lt h.0 n) [
      | inl l ↦ (old k).1 (h.0, h.1, l, h.3, h.4)
      | inr up ↦
          let same : h.0 ≡ n = omega (arith, h.2, up) in
          let one : h.1 ≡ r = same_Some h.1 r (sym h.3.0 ∙ ap (slice_get rows) same ∙ at) in
          absurd (out (subst (λ (x : Row). P x.scope x) one (subst (λ b. P b h.1) (sym h.3.1) h.4)))
    ],
  )

  -- one of which it holds
  pub marked_more : (n : ℕ) (r : Row) (old new : List Bool) → slice_get rows n ≡ Some r → P r.scope r → is_marked new r.scope ≡ true → ((k : ℕ) → k ≢ r.scope → is_marked new k ≡ is_marked old k) → MarkedUpTo P rows n old → MarkedUpTo P rows (n + 1) new
  marked_more n r old new at holds here else before k = elim (cases_eq k r.scope) [
    | inl same ↦ (
      λ e. (n, r, omega arith, (at, sym same), subst (λ b. P b r) (sym same) holds),
      λ h. ap (is_marked new) same ∙ here,
    )
    | inr ne ↦ (
      λ e. let p = (before k).0 (sym (else k ne) ∙ e) in (p.0, p.1, omega (arith, p.2), p.3, p.4),
      λ h. elim (cases_lt h.0 n) [
        | inl l ↦ else k ne ∙ (before k).1 (h.0, h.1, l, h.3, h.4)
        | inr up ↦
            let same : h.0 ≡ n = omega (arith, h.2, up) in
            let one : h.1 ≡ r = same_Some h.1 r (sym h.3.0 ∙ ap (slice_get rows) same ∙ at) in
            absurd (ne (sym h.3.1 ∙ ap (λ (x : Row). x.scope) one))
      ],
    )
  ]

  pub marked_all : (n : ℕ) (marks : List Bool) → length rows ≤ n → MarkedUpTo P rows n marks → AreMarked P rows marks
  marked_all n marks past all k = (
    λ e. let p = (all k).0 e in (p.0, p.1, p.3, p.4),
    λ h. (all k).1 (h.0, h.1, (let w = slice_get_within rows h.0 h.1 h.2.0 in omega (arith, w, past)), h.2, h.3),
  )
