-- Nodes whose numbers ascend.
use Rattle.std.proofs.Common.{◌≡◌, ℕ, ◌<◌, ◌≤◌, ◌==◌, List, length, get_or, inl, inr, ap, arith, eqb-true, leb, leb-true, ltb, ltb-true, subst, sym, ◌+◌}
use Rattle.std.specs.List.Sorted.{IsNonDecreasingBy}
use Rattle.std.proofs.lemmas.Bool.{cases_Bool}
use Rattle.std.proofs.lemmas.Bool.Decides.{nat_tests}
use Rattle.yv_nodes.specs.declared.node.NodeId.{NodeId}
use Rattle.yv_walk.specs.InnerNextExisting.{Ascend}

pub not_decreasing : (ns : List NodeId) → Ascend ns → IsNonDecreasingBy (λ (n : NodeId). n.0) ns
not_decreasing ns up i k d le lt = elim (cases_Bool (i == k)) [
  | inl e ↦
      let same : (get_or ns i d).0 ≡ (get_or ns k d).0 = ap (λ j. (get_or ns j d).0) (eqb-true i k e) in
      omega (arith, same)
  | inr e ↦
      let less : i < k = grind (arith, nat_tests, e, le) in
      let h = up i k d less lt in
      omega (arith, h)
]

-- a node has no lesser number than one before it
pub from_first : (ns : List NodeId) (from place : ℕ) (d : NodeId) → Ascend ns → from ≤ place → place < length ns → (get_or ns from d).0 ≤ (get_or ns place d).0
from_first ns from place d up le lt = not_decreasing ns up from place d le lt

-- what has no lesser number than a node isn't before it
pub not_before : (ns : List NodeId) (from place number : ℕ) (d : NodeId) → Ascend ns → from < length ns → (get_or ns from d).0 ≤ number
    → (place < length ns → number ≤ (get_or ns place d).0) → from ≤ place
not_before ns from place number d up lt low high = elim (cases_Bool (leb from place)) [
  | inl e ↦ leb-true from place e
  | inr e ↦
      let less : place < from = grind (arith, nat_tests, e) in
      let greater : number ≤ (get_or ns place d).0 = high (omega (arith, less, lt)) in
      let below : (get_or ns place d).0 < (get_or ns from d).0 = up place from d less lt in
      absurd (omega (arith, low, greater, below))
]

-- what holds of the places before one, of that place and of those behind it
pub passed_on : (P : ℕ → Type 0) (from place next : ℕ) → ((at : ℕ) → from ≤ at → at < place → P at) → P place → ((at : ℕ) → place + 1 ≤ at → at < next → P at)
    → (at : ℕ) → from ≤ at → at < next → P at
passed_on P from place next before here behind at low high = elim (cases_Bool (ltb at place)) [
  | inl e ↦ before at low (ltb-true at place e)
  | inr e ↦ elim (cases_Bool (at == place)) [
    | inl f ↦ subst P (sym (eqb-true at place f)) here
    | inr f ↦ let past : place + 1 ≤ at = grind (arith, nat_tests, e, f) in behind at past high
  ]
]
