-- The least place of an augment that adds to no node.
use Rattle.std.proofs.Common.{inl, inr, ◌≡◌, ℕ, zero, suc, ◌+◌, ◌≤◌, ◌<◌, min, List, [], ◌∷◌, drop, refl, sym, ◌∙◌, ap, subst, arith, Option, Some, None}
use Rattle.std.specs.List.{slice_get}
use Rattle.std.proofs.lemmas.Bool.{cases_lt}
use Rattle.std.proofs.lemmas.Option.{same_Some}
use Rattle.yv_expand_rounds.specs.declared.label.Label.{Label}
use Rattle.yv_expand_rounds.specs.declared.end.End.{End}
use Rattle.yv_expand_rounds.specs.Paths.{lesser}
use Rattle.yv_expand_rounds.specs.Turns.{target_of}
use Rattle.yv_expand_rounds.specs.MissingTargets.{IsFirstWithoutTarget}
use Rattle.yv_expand_rounds.specs.InnerMissingTargets.{place_without, least_from}
use Rattle.yv_expand_rounds.proofs.RoundProgress.{rest_of}
use Rattle.yv_expand_rounds.proofs.Least.{lesser_assoc}

-- one more place
pub least_more : (labels : List Label) (ends : List (Option End)) (places : List (Option ℕ)) (i : ℕ) (place least next whole : Option ℕ)
    → slice_get places i ≡ Some place → next ≡ lesser least (place_without (target_of labels ends i) place)
    → lesser least (least_from labels ends i (drop i places)) ≡ whole → lesser next (least_from labels ends (i + 1) (drop (i + 1) places)) ≡ whole
least_more labels ends places i place least next whole at is goes =
    let rest : Option ℕ = least_from labels ends (i + 1) (drop (i + 1) places) in
    ap (λ o. lesser o rest) is
    ∙ lesser_assoc least (place_without (target_of labels ends i) place) rest
    ∙ ap (λ l. lesser least (least_from labels ends i l)) (sym (rest_of places i place at))
    ∙ goes

-- what the least place is, from an augment on
record From (labels : List Label) (ends : List (Option End)) (k : ℕ) (places : List (Option ℕ)) (j place : ℕ) : Type 0 where
  pub at : slice_get places j ≡ Some (Some place)
  pub untargeted : target_of labels ends (k + j) ≡ None

abbrev IsFirstFrom : List Label → List (Option End) → ℕ → List (Option ℕ) → Option ℕ → Type 0
IsFirstFrom labels ends k places None = (j place : ℕ) → From labels ends k places j place → ⊥
IsFirstFrom labels ends k places (Some first) =
    ((j : ℕ) × From labels ends k places j first) × ((j place : ℕ) → From labels ends k places j place → first ≤ place)

-- the first of the others is one of all
later : (labels : List Label) (ends : List (Option End)) (k : ℕ) (o : Option ℕ) (places : List (Option ℕ)) (j place : ℕ)
    → From labels ends (k + 1) places j place → From labels ends k (o ∷ places) (suc j) place
later labels ends k o places j place f = record {
  at = f.at;
  untargeted = ap (λ n. target_of labels ends n) (let z : k + suc j ≡ k + 1 + j = omega arith in z) ∙ f.untargeted;
}

earlier : (labels : List Label) (ends : List (Option End)) (k : ℕ) (o : Option ℕ) (places : List (Option ℕ)) (j place : ℕ)
    → From labels ends k (o ∷ places) (suc j) place → From labels ends (k + 1) places j place
earlier labels ends k o places j place f = record {
  at = f.at;
  untargeted = ap (λ n. target_of labels ends n) (let z : k + 1 + j ≡ k + suc j = omega arith in z) ∙ f.untargeted;
}

-- the first of all isn't one of them
passed : (labels : List Label) (ends : List (Option End)) (k : ℕ) (o : Option ℕ) (places : List (Option ℕ)) (rest : Option ℕ)
    → ((place : ℕ) → From labels ends k (o ∷ places) zero place → ⊥) → IsFirstFrom labels ends (k + 1) places rest → IsFirstFrom labels ends k (o ∷ places) rest
passed labels ends k o places None none rest = here
  where
    here : (j place : ℕ) → From labels ends k (o ∷ places) j place → ⊥
    here zero place f = none place f
    here (suc j) place f = rest j place (earlier labels ends k o places j place f)
passed labels ends k o places (Some first) none rest =
    ((suc rest.0.0, later labels ends k o places rest.0.0 first rest.0.1), here)
  where
    here : (j place : ℕ) → From labels ends k (o ∷ places) j place → first ≤ place
    here zero place f = absurd (none place f)
    here (suc j) place f = rest.1 j place (earlier labels ends k o places j place f)

-- the first of all is one
met : (labels : List Label) (ends : List (Option End)) (k p : ℕ) (places : List (Option ℕ)) (rest : Option ℕ) → target_of labels ends k ≡ None
    → IsFirstFrom labels ends (k + 1) places rest → IsFirstFrom labels ends k (Some p ∷ places) (lesser (Some p) rest)
met labels ends k p places None none rest = ((zero, first), here)
  where
    first : From labels ends k (Some p ∷ places) zero p
    first = record { at = refl; untargeted = ap (λ n. target_of labels ends n) (let z : k + 0 ≡ k = omega arith in z) ∙ none }

    here : (j place : ℕ) → From labels ends k (Some p ∷ places) j place → p ≤ place
    here zero place f = let e : p ≡ place = same_Some p place (same_Some (Some p) (Some place) f.at) in omega (arith, e)
    here (suc j) place f = absurd (rest j place (earlier labels ends k (Some p) places j place f))
met labels ends k p places (Some q) none rest = elim (cases_lt p q) [
  | inl l ↦ let e : p ≡ min p q = omega (arith, l) in
      subst (λ n. IsFirstFrom labels ends k (Some p ∷ places) (Some n)) e ((zero, first), here l)
  | inr l ↦ let e : q ≡ min p q = omega (arith, l) in
      subst (λ n. IsFirstFrom labels ends k (Some p ∷ places) (Some n)) e
      ((suc rest.0.0, later labels ends k (Some p) places rest.0.0 q rest.0.1), there l)
]
  where
    first : From labels ends k (Some p ∷ places) zero p
    first = record { at = refl; untargeted = ap (λ n. target_of labels ends n) (let z : k + 0 ≡ k = omega arith in z) ∙ none }

    here : p < q → (j place : ℕ) → From labels ends k (Some p ∷ places) j place → p ≤ place
    here l zero place f = let e : p ≡ place = same_Some p place (same_Some (Some p) (Some place) f.at) in omega (arith, e)
    here l (suc j) place f = let m : q ≤ place = rest.1 j place (earlier labels ends k (Some p) places j place f) in omega (arith, m, l)

    there : q ≤ p → (j place : ℕ) → From labels ends k (Some p ∷ places) j place → q ≤ place
    there l zero place f = let e : p ≡ place = same_Some p place (same_Some (Some p) (Some place) f.at) in omega (arith, e, l)
    there l (suc j) place f = rest.1 j place (earlier labels ends k (Some p) places j place f)

none_at : (labels : List Label) (ends : List (Option End)) (k : ℕ) (places : List (Option ℕ)) (place : ℕ) → From labels ends k (None ∷ places) zero place → ⊥
none_at labels ends k places place f = absurd (let bad : None ≡ Some place = same_Some None (Some place) f.at in cc)

some_at : (labels : List Label) (ends : List (Option End)) (k t : ℕ) (o : Option ℕ) (places : List (Option ℕ)) (place : ℕ) → target_of labels ends k ≡ Some t
    → From labels ends k (o ∷ places) zero place → ⊥
some_at labels ends k t o places place is f =
    absurd (let bad : None ≡ Some t = sym f.untargeted ∙ ap (λ n. target_of labels ends n) (let z : k + 0 ≡ k = omega arith in z) ∙ is in cc)

joined : (labels : List Label) (ends : List (Option End)) (k : ℕ) (o : Option ℕ) (places : List (Option ℕ)) (rest target : Option ℕ) → target_of labels ends k ≡ target
    → IsFirstFrom labels ends (k + 1) places rest → IsFirstFrom labels ends k (o ∷ places) (lesser (place_without target o) rest)
joined labels ends k None places rest None is f = passed labels ends k None places rest (none_at labels ends k places) f
joined labels ends k (Some p) places rest None is f = met labels ends k p places rest is f
joined labels ends k o places rest (Some t) is f = passed labels ends k o places rest (λ place g. some_at labels ends k t o places place is g) f

first_from : (labels : List Label) (ends : List (Option End)) (k : ℕ) (places : List (Option ℕ)) → IsFirstFrom labels ends k places (least_from labels ends k places)
first_from labels ends k [] = λ j place f. absurd (let bad : None ≡ Some (Some place) = f.at in cc)
first_from labels ends k (o ∷ places) =
    joined labels ends k o places (least_from labels ends (k + 1) places) (target_of labels ends k) refl (first_from labels ends (k + 1) places)

from_first : (labels : List Label) (ends : List (Option End)) (places : List (Option ℕ)) (o : Option ℕ) → IsFirstFrom labels ends 0 places o
    → IsFirstWithoutTarget labels ends places o
from_first labels ends places None f = λ k place h. f k place (record {
  at = h.at;
  untargeted = ap (λ n. target_of labels ends n) (let z : 0 + k ≡ k = omega arith in z) ∙ h.untargeted;
})
from_first labels ends places (Some first) f = (
  (
    f.0.0,
    record {
      at = f.0.1.at;
      untargeted = ap (λ n. target_of labels ends n) (let z : f.0.0 ≡ 0 + f.0.0 = omega arith in z) ∙ f.0.1.untargeted;
    },
  ),
  λ k place h. f.1 k place (record {
    at = h.at;
    untargeted = ap (λ n. target_of labels ends n) (let z : 0 + k ≡ k = omega arith in z) ∙ h.untargeted;
  }),
)

-- the least of all
pub first_is : (labels : List Label) (ends : List (Option End)) (places : List (Option ℕ)) (o : Option ℕ) → o ≡ least_from labels ends 0 places
    → IsFirstWithoutTarget labels ends places o
first_is labels ends places o is =
    subst (λ x. IsFirstWithoutTarget labels ends places x) (sym is) (from_first labels ends places (least_from labels ends 0 places) (first_from labels ends 0 places))
