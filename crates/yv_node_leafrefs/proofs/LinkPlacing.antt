-- Containers and lists above nodes.
use Rattle.std.proofs.Common.{◌≡◌, ◌↔◌, ◌⊎◌, inl, inr, ℕ, zero, suc, ◌+◌, ◌<◌, ◌≤◌, true, false, List, [], ◌∷◌, ◌++◌, length, refl, sym}
use Rattle.std.proofs.Common.{◌∙◌, ap, subst, arith, Option, Some, None}
use Rattle.std.proofs.lemmas.Bool.{cases_lt, false≢true}
use Rattle.std.proofs.lemmas.List.{get_or_append_left}
use Rattle.std.proofs.lemmas.Option.{same_Some, none-some}
use Rattle.std.specs.List.{slice_get, slice_index_or}
use Rattle.yv_node_content.specs.Kinds.{is_passed}
use Rattle.yv_node_content.specs.declared.kind.NodeKind.{NodeKind}
use Rattle.yv_node_content.specs.declared.kind.NodeKind.TheVariants as kind
use Rattle.yv_nodes.specs.Rows.{Row}
use Rattle.yv_node_leafrefs.specs.Above as above
use Rattle.yv_node_leafrefs.specs.Above.{Closest, IsAbove, parent_of}
use Rattle.yv_node_leafrefs.specs.Links.{is_inner, IsInner}
use Rattle.yv_node_leafrefs.specs.InnerWays.{AreAbove}
use Rattle.yv_node_leafrefs.proofs.LinkClosing.{from_none, from_passed, from_plain}

-- ---- kinds

pub passed_kind : (k : NodeKind) → (k ≡ kind.Choice) ⊎ (k ≡ kind.Case) → is_passed k ≡ true
passed_kind k (inl e) = ap is_passed e
passed_kind k (inr e) = ap is_passed e

pub inner_kind : (k : NodeKind) → (k ≡ kind.Container) ⊎ (k ≡ kind.List) → (is_passed k ≡ false) × (is_inner k ≡ true)
inner_kind k (inl e) = (ap is_passed e, ap is_inner e)
inner_kind k (inr e) = (ap is_passed e, ap is_inner e)

pub other_kind : (k : NodeKind) → (k ≡ kind.Container → ⊥) → (k ≡ kind.List → ⊥) → (k ≡ kind.Choice → ⊥) → (k ≡ kind.Case → ⊥)
    → (is_passed k ≡ false) × (is_inner k ≡ false)
other_kind kind.Container no_container no_list no_choice no_case = absurd (no_container refl)
other_kind kind.List no_container no_list no_choice no_case = absurd (no_list refl)
other_kind kind.Choice no_container no_list no_choice no_case = absurd (no_choice refl)
other_kind kind.Case no_container no_list no_choice no_case = absurd (no_case refl)
other_kind k no_container no_list no_choice no_case = (refl, refl)

-- ---- the closest place

pub at_none : (rows : List Row) (place : Option ℕ) (p : ℕ) → place ≡ None
    → (◌≡◌ {A = Option ℕ} None (Some p)) ↔ (Closest rows place (Some p) × IsInner rows p)
at_none rows place p e =
    (λ h. absurd (none-some p h), λ (closest, inner). absurd (none-some p (sym (from_none rows place (Some p) closest e))))

module _ (rows : List Row) (place : Option ℕ) (q : ℕ) (r : Row) (e : place ≡ Some q) (at : slice_get rows q ≡ Some r) where
  pub at_passed : (found : Option ℕ) (p : ℕ) → is_passed r.label.defined.kind ≡ true
      → (found ≡ Some p) ↔ (IsAbove rows (Some p) q × IsInner rows p)
      → (found ≡ Some p) ↔ (Closest rows place (Some p) × IsInner rows p)
  at_passed found p passed known = (
    λ h.
        let here = known.0 h in
        let up : IsAbove rows (Some p) q = here.0 in
        let same : up.0 ≡ r = same_Some up.0 r (sym up.1 ∙ at) in
        let over : Closest rows (parent_of r) (Some p) = subst (λ (x : Row). Closest rows (parent_of x) (Some p)) same up.2 in
        (subst (λ (x : Option ℕ). Closest rows x (Some p)) (sym e) (above.further r at passed over), here.1),
    λ (closest, inner). known.1 ((r, at, from_passed rows place (Some p) q r closest e at passed), inner),
  )

  pub at_inner : (p : ℕ) → is_passed r.label.defined.kind ≡ false → is_inner r.label.defined.kind ≡ true
      → (Some q ≡ Some p) ↔ (Closest rows place (Some p) × IsInner rows p)
  at_inner p plain own = (
    λ h. let is : q ≡ p = same_Some q p h in (rw (e, sym is) (above.here r at plain), (r, ap (slice_get rows) (sym is) ∙ at, own)),
    λ (closest, inner). sym (from_plain rows place (Some p) q r closest e at plain),
  )

  pub at_other : (p : ℕ) → is_passed r.label.defined.kind ≡ false → is_inner r.label.defined.kind ≡ false
      → (◌≡◌ {A = Option ℕ} None (Some p)) ↔ (Closest rows place (Some p) × IsInner rows p)
  at_other p plain other = (
    λ h. absurd (none-some p h),
    λ (closest, inner).
        let is : p ≡ q = same_Some p q (from_plain rows place (Some p) q r closest e at plain) in
        let same : inner.0 ≡ r = same_Some inner.0 r (sym inner.1 ∙ ap (slice_get rows) is ∙ at) in
        absurd (false≢true (sym other ∙ subst (λ (x : Row). is_inner x.label.defined.kind ≡ true) same inner.2)),
  )

pub last_of : {A : Type 0} (xs : List A) (y d : A) → slice_index_or (xs ++ y ∷ []) (length xs) d ≡ y
last_of [] y d = refl
last_of (x ∷ xs) y d = last_of xs y d

pub longer : {A : Type 0} (xs : List A) (y : A) → length (xs ++ y ∷ []) ≡ length xs + 1
longer [] y = refl
longer (x ∷ xs) y = omega (arith, longer xs y)

pub past : {A : Type 0} (xs : List A) (i : ℕ) (d : A) → length xs ≤ i → slice_index_or xs i d ≡ d
past [] i d l = refl
past (x ∷ xs) zero d l = absurd (omega (arith, l))
past (x ∷ xs) (suc i) d l = past xs i d (omega (arith, l))

-- what a list has at a place, one more being put behind it
pub put : {A : Type 0} (n c : ℕ) (xs new : List A) (y d : A) → length xs ≡ n → c < n + 1 → new ≡ xs ++ y ∷ [] → (P : ℕ → A → Type 0)
    → ((k : ℕ) → k < n → P k (slice_index_or xs k d)) → P n y → P c (slice_index_or new c d)
put n c xs new y d each l more P known now = elim (cases_lt c n) [
  | inl less ↦
      let same : slice_index_or new c d ≡ slice_index_or xs c d = ap (λ ys. slice_index_or ys c d) more
      ∙ get_or_append_left xs (y ∷ []) d c (omega (arith, less, each)) in
      subst (P c) (sym same) (known c less)
  | inr up ↦
      let last : c ≡ n = omega (arith, up, l) in
      let got : slice_index_or new c d ≡ y = ap (λ ys. slice_index_or ys c d) more
      ∙ ap (λ k. slice_index_or (xs ++ y ∷ []) k d) (last ∙ sym each) ∙ last_of xs y d in
      subst (P c) (sym got) (subst (λ k. P k y) (sym last) now)
]

-- one more node
pub above_more : (rows : List Row) (n : ℕ) (over new : List (Option ℕ)) (r : Row) (a : Option ℕ) → length over ≡ n → AreAbove rows n over
    → slice_get rows n ≡ Some r
    → ((p : ℕ) → (a ≡ Some p) ↔ (Closest rows (parent_of r) (Some p) × IsInner rows p)) → new ≡ over ++ a ∷ [] → AreAbove rows (n + 1) new
above_more rows n over new r a each known at now more c p l =
    put n c over new a None each l more (λ k x. (x ≡ Some p) ↔ (IsAbove rows (Some p) k × IsInner rows p)) (λ k less. known k p less) (
      λ h. let here = (now p).0 h in ((r, at, here.0), here.1),
      λ (up, inner).
          let same : up.0 ≡ r = same_Some up.0 r (sym up.1 ∙ at) in
          (now p).1 (subst (λ (x : Row). Closest rows (parent_of x) (Some p)) same up.2, inner),
    )
