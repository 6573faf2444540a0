-- The weights of statements, one by one.
use Rattle.std.proofs.Common.{◌≡◌, ℕ, ◌+◌, ◌<◌, inl, inr, List, [], ◌∷◌, ◌++◌, length, get_or, refl, ◌∙◌, ap, subst, arith, Some, None}
use Rattle.std.proofs.lemmas.Bool.{cases_lt}
use Rattle.std.proofs.lemmas.List.{get_or_append_left, get_or_push}
use Rattle.std.specs.List.{slice_get}
use Rattle.yv_link_scopes.specs.Files.{Briefs}
use Rattle.yv_link_scopes.specs.Rows.{Row}
use Rattle.yv_expand_statements.specs.Units.{units_of, saturate}
use Rattle.yv_expand_statements.specs.Weigh.{Weighs, nothing, other}
use Rattle.yv_expand.specs.InnerSteps.{IsSettled}
use Rattle.yv_expand.proofs.SettledValues.{counted}

-- what is told of a statement
abbrev pub IsTold : Briefs → List Row → ℕ → ℕ → Type 0
IsTold files rows k w = (n : ℕ) × Weighs files rows k n × (w ≡ saturate n)

pub told_some : (files : Briefs) (rows : List Row) (values : List ℕ) (k own w : ℕ) (r : Row) → slice_get rows k ≡ Some r → units_of r.head.keyword ≡ Some own → IsSettled files rows values k → w ≡ get_or values k 0 → IsTold files rows k w
told_some files rows values k own w r at units settled is =
    let t = counted files rows values k own 0 0 r [] at units settled nothing refl in
    (t.0, t.1, (let value : get_or values k 0 ≡ saturate settled.1 = settled.4 in omega (arith, is, value, t.2)))

pub told_none : (files : Briefs) (rows : List Row) (k w : ℕ) (r : Row) → slice_get rows k ≡ Some r → units_of r.head.keyword ≡ None → w ≡ 0 → IsTold files rows k w
told_none files rows k w r at none is = (0, other at none nothing, is)

abbrev pub AreTold : Briefs → List Row → ℕ → List ℕ → Type 0
AreTold files rows i weights = (k : ℕ) → k < i → IsTold files rows k (get_or weights k 0)

pub told_more : (files : Briefs) (rows : List Row) (i w : ℕ) (weights weights' : List ℕ) → length weights ≡ i → weights' ≡ weights ++ w ∷ [] → IsTold files rows i w → AreTold files rows i weights → AreTold files rows (i + 1) weights'
told_more files rows i w weights weights' each now new old k l = elim (cases_lt k i) [
  | inl less ↦
      let was = old k less in
      let same : get_or weights' k 0 ≡ get_or weights k 0 = ap (λ (x : List ℕ). get_or x k 0) now ∙ get_or_append_left weights (w ∷ []) 0 k (omega (arith, less, each)) in
      (was.0, was.1, same ∙ was.2)
  | inr up ↦
      let here : i ≡ k = omega (arith, l, up) in
      let value : get_or weights' i 0 ≡ w = ap (λ (x : List ℕ). get_or x i 0) now ∙ get_or_push weights w 0 i each in
      subst (λ (n : ℕ). IsTold files rows n (get_or weights' n 0)) here (new.0, new.1, value ∙ new.2)
]
