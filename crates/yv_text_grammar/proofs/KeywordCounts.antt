-- How often a keyword stands among statements, against whether it stands before one.
use Rattle.std.proofs.Common.{◌≡◌, ℕ, zero, suc, ◌+◌, ◌<◌, ◌≤◌, Bool, true, false, ◌||◌, List, [], ◌∷◌, Option, Some, None, take, sym, ◌∙◌, refl, arith}
use Rattle.std.specs.List.{slice_get}
use Rattle.std.proofs.lemmas.Bool.{false≢true, or_parts}
use Rattle.yv_text_statement.specs.Keywords.{same}
use Rattle.yv_text_grammar.specs.Refusals.{has, keyword_at, is_excess}
use Rattle.yv_text_grammar.specs.Fits.{occurrences, IsAllowed}
use Rattle.yv_text_statement.specs.declared.keyword.Keyword.{Keyword}
use Rattle.yv_text_grammar.specs.declared.table.Occurs.{Occurs}
use Rattle.yv_text_grammar.specs.declared.table.Occurs.TheVariants.{One, Optional, Any}
use Rattle.yv_text_statement.specs.Tree.{Tree}

module _ (k : Keyword) where
  -- the count of one more, by the test of its keyword
  met : (c : Tree) (cs : List Tree) → same (keyword_at c) k ≡ true → occurrences k (c ∷ cs) ≡ 1 + occurrences k cs
  met c cs h = rw h

  unmet : (c : Tree) (cs : List Tree) → same (keyword_at c) k ≡ false → occurrences k (c ∷ cs) ≡ occurrences k cs
  unmet c cs h = rw h

  pub some : (cs : List Tree) (n : ℕ) (c : Tree) → slice_get cs n ≡ Some c → same (keyword_at c) k ≡ true → 0 < occurrences k cs
  some [] n c at_n h = cc
  some (d ∷ cs) zero c at_n h = let one : d ≡ c = cc in omega (arith, met d cs (rw one h))
  some (d ∷ cs) (suc n) c at_n h =
      let later : 0 < occurrences k cs = some cs n c at_n h in
      let cases : (t : Bool) → same (keyword_at d) k ≡ t → 0 < occurrences k (d ∷ cs) =
      λ t. elim t as (λ t. same (keyword_at d) k ≡ t → 0 < occurrences k (d ∷ cs)) [ true ↦ λ e. omega (arith, met d cs e) | false ↦ λ e. omega (arith, unmet d cs e, later) ] in
      cases (same (keyword_at d) k) refl

  pub none : (cs : List Tree) → ((n : ℕ) (c : Tree) → slice_get cs n ≡ Some c → same (keyword_at c) k ≡ true → ⊥) → occurrences k cs ≡ 0
  none [] h = refl
  none (d ∷ cs) h =
      let cases : (t : Bool) → same (keyword_at d) k ≡ t → occurrences k (d ∷ cs) ≡ 0 =
      λ t. elim t as (λ t. same (keyword_at d) k ≡ t → occurrences k (d ∷ cs) ≡ 0) [ true ↦ λ e. absurd (h 0 d refl e) | false ↦ λ e. unmet d cs e ∙ none cs (λ n c. h (suc n) c) ] in
      cases (same (keyword_at d) k) refl

  -- where at most one stands, none stands before one
  pub first : (cs : List Tree) (n : ℕ) (c : Tree) → occurrences k cs ≤ 1 → slice_get cs n ≡ Some c → same (keyword_at c) k ≡ true → has k (take n cs) ≡ false
  first [] n c most at_n h = cc
  first (d ∷ cs) zero c most at_n h = refl
  first (d ∷ cs) (suc n) c most at_n h =
      let cases : (t : Bool) → same (keyword_at d) k ≡ t → (t || has k (take n cs)) ≡ false =
      λ t. elim t as (λ t. same (keyword_at d) k ≡ t → (t || has k (take n cs)) ≡ false) [
        | true ↦ λ e. absurd (omega (arith, met d cs e, some cs n c at_n h))
        | false ↦ λ e. first cs n c (omega (arith, unmet d cs e)) at_n h
      ] in
      cases (same (keyword_at d) k) refl

  -- where none stands before one, at most one stands
  pub at_most_one : (cs : List Tree) → ((n : ℕ) (c : Tree) → slice_get cs n ≡ Some c → same (keyword_at c) k ≡ true → has k (take n cs) ≡ false) → occurrences k cs ≤ 1
  at_most_one [] h = omega arith
  at_most_one (d ∷ cs) h =
      let cases : (t : Bool) → same (keyword_at d) k ≡ t → occurrences k (d ∷ cs) ≤ 1 =
      λ t. elim t as (λ t. same (keyword_at d) k ≡ t → occurrences k (d ∷ cs) ≤ 1) [
        | true ↦ λ e. omega (arith, met d cs e, none cs (λ n c at_n is. false≢true (sym (or_parts _ _ (h (suc n) c at_n is)).0 ∙ e)))
        | false ↦ λ e. omega (arith, unmet d cs e, at_most_one cs (λ n c at_n is. (or_parts _ _ (h (suc n) c at_n is)).1))
      ] in
      cases (same (keyword_at d) k) refl

  pub counted : (cs : List Tree) → has k cs ≡ true → 0 < occurrences k cs
  counted [] h = absurd (false≢true h)
  counted (d ∷ cs) h =
      let cases : (t : Bool) → same (keyword_at d) k ≡ t → (t || has k cs) ≡ true → 0 < occurrences k (d ∷ cs) =
      λ t. elim t as (λ t. same (keyword_at d) k ≡ t → (t || has k cs) ≡ true → 0 < occurrences k (d ∷ cs)) [
        | true ↦ λ e g. omega (arith, met d cs e)
        | false ↦ λ e g. omega (arith, unmet d cs e, counted cs g)
      ] in
      cases (same (keyword_at d) k) refl h

  pub uncounted : (cs : List Tree) → has k cs ≡ false → occurrences k cs ≡ 0
  uncounted [] h = refl
  uncounted (d ∷ cs) h = unmet d cs (or_parts _ _ h).0 ∙ uncounted cs (or_parts _ _ h).1

  -- the number is allowed exactly where no child is one too many, and none is missing
  pub not_excess : (o : Option Occurs) (cs : List Tree) (n : ℕ) (c : Tree) → IsAllowed o (occurrences k cs) → slice_get cs n ≡ Some c → same (keyword_at c) k ≡ true → is_excess o (has k (take n cs)) ≡ false
  not_excess None cs n c h at_n is = absurd (omega (arith, h, some cs n c at_n is))
  not_excess (Some One) cs n c h at_n is = first cs n c (omega (arith, h)) at_n is
  not_excess (Some Optional) cs n c h at_n is = first cs n c h at_n is
  not_excess (Some Any) cs n c h at_n is = refl

  pub allowed : (o : Option Occurs) (cs : List Tree) → ((n : ℕ) (c : Tree) → slice_get cs n ≡ Some c → same (keyword_at c) k ≡ true → is_excess o (has k (take n cs)) ≡ false) → (o ≡ Some One → has k cs ≡ true) → IsAllowed o (occurrences k cs)
  allowed None cs h one = none cs (λ n c at_n is. false≢true (sym (h n c at_n is)))
  allowed (Some One) cs h one = omega (arith, at_most_one cs h, counted cs (one refl))
  allowed (Some Optional) cs h one = at_most_one cs h
  allowed (Some Any) cs h one = tt
