-- A number is in a list or isn't.
use Rattle.std.proofs.Common.{◌⊎◌, inl, inr, ℕ, List, [], ◌∷◌, subst}
use Rattle.std.specs.List.{Contains}
use Rattle.std.proofs.lemmas.Bool.{cases_eq}
use Rattle.yv_expand_laws.proofs.FoundItems.{there_first, there_later}
use Rattle.yv_expand_laws.proofs.FrameSequences.{nothing_stands}
use Rattle.yv_expand_laws.proofs.BlockNodes.{first_or}

pub is_or_not : (xs : List ℕ) (a : ℕ) → Contains xs a ⊎ (Contains xs a → ⊥)
is_or_not [] a = inr (nothing_stands a)
is_or_not (x ∷ xs) a = elim (cases_eq x a) [
  | inl same ↦ inl (subst (λ (n : ℕ). Contains (x ∷ xs) n) same (there_first x xs))
  | inr other ↦ elim (is_or_not xs a) [
    | inl there ↦ inl (there_later x a xs there)
    | inr never ↦ inr (λ h. elim (first_or x xs a h) [ inl same ↦ other same | inr there ↦ never there ])
  ]
]
