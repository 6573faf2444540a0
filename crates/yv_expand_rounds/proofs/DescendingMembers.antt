-- Members that descend, and those at the end that come before a limit.
use Rattle.std.proofs.Common.{◌≡◌, ◌⊎◌, ℕ, zero, suc, ◌-◌, ◌<◌, ◌≤◌, List, [], ◌∷◌, ◌++◌, drop, get_or, length, None, Some, inl, inr, refl, sym, ◌∙◌, ap, arith}
use Rattle.std.specs.List.{slice_get}
use Rattle.std.proofs.lemmas.Bool.{cases_lt}
use Rattle.std.proofs.lemmas.Option.{same_Some, slice_get-get_or, slice_get_within}
use Rattle.yv_expand_rounds.specs.InnerGroups.{Descend, IsBelowLast}

-- what stands there stood there before, or is the one that was pushed
pub pushed_place : {A : Type 0} (xs : List A) (y x : A) (k : ℕ) → slice_get (xs ++ y ∷ []) k ≡ Some x → (slice_get xs k ≡ Some x) ⊎ ((k ≡ length xs) × (x ≡ y))
pushed_place [] y x zero h = inr (refl, sym (same_Some y x h))
pushed_place [] y x (suc k) h = absurd (let e : None ≡ Some x = h in cc)
pushed_place (z ∷ zs) y x zero h = inl h
pushed_place (z ∷ zs) y x (suc k) h = elim (pushed_place zs y x k h) [
  | inl before ↦ inl before
  | inr last ↦ inr (ap suc last.0, last.1)
]

pub kept_place : {A : Type 0} (xs : List A) (y x : A) (k : ℕ) → slice_get xs k ≡ Some x → slice_get (xs ++ y ∷ []) k ≡ Some x
kept_place [] y x k h = absurd (let e : None ≡ Some x = h in cc)
kept_place (z ∷ zs) y x zero h = h
kept_place (z ∷ zs) y x (suc k) h = kept_place zs y x k h

pub last_place : {A : Type 0} (xs : List A) (y : A) → slice_get (xs ++ y ∷ []) (length xs) ≡ Some y
last_place [] y = refl
last_place (x ∷ xs) y = last_place xs y

-- what stands behind the first ones
pub behind_place : {A : Type 0} (n : ℕ) (xs : List A) (k : ℕ) (x : A) → n ≤ k → slice_get xs k ≡ Some x → (j : ℕ) × (slice_get (drop n xs) j ≡ Some x)
behind_place zero xs k x h at = (k, at)
behind_place (suc n) [] k x h at = absurd (let e : None ≡ Some x = at in cc)
behind_place (suc n) (y ∷ ys) zero x h at = absurd (omega (arith, h))
behind_place (suc n) (y ∷ ys) (suc k) x h at = behind_place n ys k x (omega (arith, h)) at

below_last : (members : List ℕ) (item i a : ℕ) → Descend members → IsBelowLast members item → slice_get members i ≡ Some a
    → (last : ℕ) → slice_get members (length members - 1) ≡ Some last → item < a
below_last members item i a descend below at last is =
    let less : i < length members = slice_get_within members i a at in
    let under : item < last = below (length members - 1) last (omega (arith, less)) is in
    elim (cases_lt i (length members - 1)) [
      | inl l ↦ let lower : last < a = descend i (length members - 1) a last l at is in omega (arith, lower, under)
      | inr l ↦
          let same : i ≡ length members - 1 = omega (arith, l, less) in
          let one : a ≡ last = same_Some a last (sym at ∙ ap (slice_get members) same ∙ is) in
          omega (arith, one, under)
    ]

-- an item that is less than the last enters behind it
pub descend_more : (members : List ℕ) (item : ℕ) → Descend members → IsBelowLast members item → Descend (members ++ item ∷ [])
descend_more members item descend below i j a b before at_i at_j = elim (pushed_place members item b j at_j) [
  | inl old ↦ elim (pushed_place members item a i at_i) [
    | inl first ↦ descend i j a b before first old
    | inr last ↦ absurd (let less = slice_get_within members j b old in let e = last.0 in omega (arith, e, less, before))
  ]
  | inr last ↦ elim (pushed_place members item a i at_i) [
    | inl first ↦
        let less = slice_get_within members i a first in
        let under : item < a = below_last members item i a descend below first (get_or members (length members - 1) 0) (slice_get-get_or members (length members - 1) 0 (omega (arith, less))) in
        let e = last.1 in omega (arith, e, under)
    | inr other ↦ absurd (let d = last.0 in let e = other.0 in omega (arith, e, d, before))
  ]
]

-- all before a member that isn't before the limit aren't either
pub front_behind : (members : List ℕ) (limit front a : ℕ) → Descend members → slice_get members (front - 1) ≡ Some a → limit ≤ a → 0 < front
    → (place item : ℕ) → slice_get members place ≡ Some item → item < limit → front ≤ place
front_behind members limit front a descend at past some place item at_place before = elim (cases_lt place front) [
  | inr l ↦ l
  | inl l ↦ elim (cases_lt place (front - 1)) [
    | inl less ↦ absurd (let lower : a < item = descend place (front - 1) item a less at_place at in omega (arith, lower, before, past))
    | inr more ↦ absurd (
        let same : place ≡ front - 1 = omega (arith, l, more, some) in
        let one : item ≡ a = same_Some item a (sym at_place ∙ ap (slice_get members) same ∙ at) in
        omega (arith, one, before, past))
  ]
]
