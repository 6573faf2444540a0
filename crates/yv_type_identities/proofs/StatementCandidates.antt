-- The candidates that a loop over the statements gathers.
use Rattle.std.proofs.Common.{◌≡◌, ℕ, zero, suc, ◌+◌, ◌<◌, ◌⊎◌, ◌++◌, ◌∷◌, [], inl, inr, Bool, true, false, List, length, map, Some, refl, sym, ◌∙◌, ap, subst, arith}
use Rattle.std.specs.List.{slice_get}
use Rattle.std.proofs.lemmas.Bool.{cases_eq}
use Rattle.std.proofs.lemmas.Option.{same_Some, slice_get_within}
use Rattle.std.specs.BTreeSet.{BTreeSet}
use Rattle.yv_text_statement.specs.Selection.{ModuleChoice}
use Rattle.yv_link_scopes.specs.Files.{Files, Briefs, brief_of}
use Rattle.yv_link_scopes.specs.RowList.{rows_of}
use Rattle.yv_link_scopes.specs.Rows.{Row}
use Rattle.yv_type_identities.specs.Values.{Truth}
use Rattle.yv_type_identities.specs.InnerCandidates.{AreCandidates, IsOf, passes}
use Rattle.yv_type_identities.specs.declared.candidates.Candidate.{Candidate}
use Rattle.yv_type_identities.proofs.PassingCandidates.{AreOff, candidate_passes, passes_candidate}

-- an element behind others
pub get_behind : {X : Type 0} (xs : List X) (x y : X) (k : ℕ) → slice_get (xs ++ x ∷ []) k ≡ Some y → (slice_get xs k ≡ Some y) ⊎ (x ≡ y)
get_behind [] x y zero e = inr (same_Some x y e)
get_behind [] x y (suc k) e = absurd (cc)
get_behind (z ∷ xs) x y zero e = inl e
get_behind (z ∷ xs) x y (suc k) e = get_behind xs x y k e

pub get_kept : {X : Type 0} (xs : List X) (x y : X) (k : ℕ) → slice_get xs k ≡ Some y → slice_get (xs ++ x ∷ []) k ≡ Some y
get_kept [] x y k e = absurd (cc)
get_kept (z ∷ xs) x y zero e = e
get_kept (z ∷ xs) x y (suc k) e = get_kept xs x y k e

pub get_last : {X : Type 0} (xs : List X) (x : X) → (k : ℕ) × (slice_get (xs ++ x ∷ []) k ≡ Some x)
get_last [] x = (zero, refl)
get_last (z ∷ xs) x = let r = get_last xs x in (suc r.0, r.1)

module _ (files : Briefs) (rows : List Row) (test : ℕ → Row → Bool) where
  abbrev IsSound : ℕ → List Candidate → Type 0
  IsSound n cs = (k : ℕ) (c : Candidate) → slice_get cs k ≡ Some c → (i : ℕ) × (r : Row) × (i < n) × (slice_get rows i ≡ Some r) × (test i r ≡ true) × IsOf files r c

  abbrev IsFull : ℕ → List Candidate → Type 0
  IsFull n cs = (i : ℕ) (r : Row) → i < n → slice_get rows i ≡ Some r → test i r ≡ true → (k : ℕ) × (c : Candidate) × (slice_get cs k ≡ Some c) × IsOf files r c

  -- the candidates are those of the first statements that pass
  abbrev pub Gathered : ℕ → List Candidate → Type 0
  Gathered n cs = IsSound n cs × IsFull n cs

  pub gathered_none : (cs : List Candidate) → cs ≡ [] → Gathered 0 cs
  gathered_none cs e = (
    λ k c at. let none : slice_get [] k ≡ Some c = sym (ap (λ (xs : List Candidate). slice_get xs k) e) ∙ at in absurd (cc),
    λ i r l. absurd (omega (arith, l)),
  )

  pub gathered_more : (n : ℕ) (r : Row) (c : Candidate) (old new : List Candidate) → slice_get rows n ≡ Some r → test n r ≡ true → IsOf files r c → new ≡ old ++ c ∷ [] → Gathered n old → Gathered (n + 1) new
  gathered_more n r c old new at is of more before = (
    λ k d here. elim (get_behind old c d k (sym (ap (λ (xs : List Candidate). slice_get xs k) more) ∙ here)) [
      | inl earlier ↦ let p = before.0 k d earlier in (p.0, p.1, let l : p.0 < n + 1 = omega (arith, p.2) in l, p.3, p.4, p.5)
      | inr same ↦ (n, r, let l : n < n + 1 = omega arith in l, at, is, subst (IsOf files r) same of)
    ],
    λ i s l here passed. elim (cases_eq i n) [
      | inl e ↦
          let same : r ≡ s = same_Some r s (sym at ∙ ap (slice_get rows) (sym e) ∙ here) in
          let last = get_last old c in
          (last.0, c, ap (λ (xs : List Candidate). slice_get xs last.0) more ∙ last.1, subst (λ (x : Row). IsOf files x c) same of)
      | inr ne ↦
          let p = before.1 i s (omega (arith, l, ne)) here passed in
          (p.0, p.1, ap (λ (xs : List Candidate). slice_get xs p.0) more ∙ get_kept old c p.1 p.0 p.2, p.3)
    ],
  )

  pub gathered_same : (n : ℕ) (r : Row) (old : List Candidate) → slice_get rows n ≡ Some r → test n r ≡ false → Gathered n old → Gathered (n + 1) old
  gathered_same n r old at isnt before = (
    λ k d here. let p = before.0 k d here in (p.0, p.1, let l : p.0 < n + 1 = omega (arith, p.2) in l, p.3, p.4, p.5),
    λ i s l here passed. elim (cases_eq i n) [
      | inl e ↦
          let same : s ≡ r = same_Some s r (sym here ∙ ap (slice_get rows) e ∙ at) in
          let clash : true ≡ false = sym passed ∙ ap (λ j. test j s) e ∙ ap (test n) same ∙ isnt in
          cc
      | inr ne ↦ before.1 i s (omega (arith, l, ne)) here passed
    ],
  )

-- all of them
pub all_candidates : (truth : Truth) (choice : ModuleChoice) (files : Files) (off : BTreeSet ℕ) → AreOff truth (rows_of files) off → (n : ℕ) (cs : List Candidate) → n ≡ length (rows_of files)
    → Gathered (map brief_of files) (rows_of files) (passes choice (map brief_of files) off) n cs → AreCandidates truth choice files cs
all_candidates truth choice files off are n cs e g = record {
  sound = λ k c at. let p = g.0 k c at in (p.0, p.1, p.3, passes_candidate truth choice files off are p.0 p.1 p.4, p.5);
  full = λ number r at is. g.1 number r (let l : number < n = omega (arith, e, slice_get_within (rows_of files) number r at) in l) at (candidate_passes truth choice files off are number r is);
}
