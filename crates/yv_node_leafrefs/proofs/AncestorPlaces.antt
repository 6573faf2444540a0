-- Places above nodes.
use Rattle.std.proofs.Common.{◌≡◌, ◌↔◌, ◌⊎◌, inl, inr, IsTrue, ℕ, ◌+◌, zero, suc, ◌≤◌, Bool, true, false, List, [], ◌∷◌, ◌++◌, length, refl, sym, ◌∙◌, ap, subst, arith, Option, Some, None}
use Rattle.std.proofs.lemmas.Option.{same_Some}
use Rattle.std.proofs.lemmas.Bool.{cases_lt, false≢true}
use Rattle.std.proofs.lemmas.List.{get_or_append_left}
use Rattle.std.specs.List.{slice_get, slice_index_or}
use Rattle.yv_node_content.specs.Kinds.{is_passed, is_operation_or_notification}
use Rattle.yv_nodes.specs.Rows.{Row}
use Rattle.yv_node_leafrefs.specs.Above as above
use Rattle.yv_node_leafrefs.specs.Above.{parent_of, Closest, document, here, further, IsInside}
use Rattle.yv_node_leafrefs.specs.InnerOutline.{AreAbove, AreInside}

pub last_of : {A : Type 0} (xs : List A) (y d : A) → slice_index_or (xs ++ y ∷ []) (length xs) d ≡ y
last_of [] y d = refl
last_of (x ∷ xs) y d = last_of xs y d

pub closest_here : (rows : List Row) (place : Option ℕ) (p : ℕ) (r : Row) → place ≡ Some p → slice_get rows p ≡ Some r → is_passed r.label.defined.kind ≡ false → Closest rows place (Some p)
closest_here rows place p r e at plain = rw e (here r at plain)

pub closest_further : (rows : List Row) (place a : Option ℕ) (p : ℕ) (r : Row) → place ≡ Some p → slice_get rows p ≡ Some r → is_passed r.label.defined.kind ≡ true
    → Closest rows (parent_of r) a → Closest rows place a
closest_further rows place a p r e at passed rest = rw e (further r at passed rest)

pub closest_none : (rows : List Row) (place : Option ℕ) → place ≡ None → Closest rows place None
closest_none rows place e = rw e document

-- one more node
pub above_more : (rows : List Row) (n : ℕ) (above new : List (Option ℕ)) (r : Row) (a : Option ℕ) → length above ≡ n → AreAbove rows n above → slice_get rows n ≡ Some r
    → Closest rows (parent_of r) a → new ≡ above ++ a ∷ [] → AreAbove rows (n + 1) new
above_more rows n above new r a each known at now more c q l there = elim (cases_lt c n) [
  | inl less ↦
      let same : slice_index_or new c None ≡ slice_index_or above c None = ap (λ xs. slice_index_or xs c None) more ∙ get_or_append_left above (a ∷ []) None c (omega (arith, less, each)) in
      rw same (known c q less there)
  | inr up ↦
      let last : c ≡ n = omega (arith, up, l) in
      let is : q ≡ r = same_Some q r (sym there ∙ ap (slice_get rows) last ∙ at) in
      let got : slice_index_or new c None ≡ a = ap (λ xs. slice_index_or xs c None) more ∙ ap (λ k. slice_index_or (above ++ a ∷ []) k None) (last ∙ sym each) ∙ last_of above a None in
      rw (got, is) now
]

-- inside an operation
pub inside_by : (rows : List Row) (n : ℕ) (r : Row) (place : Option ℕ) → place ≡ Some n → slice_get rows n ≡ Some r → IsInside rows place → (is_operation_or_notification r.label.defined.kind ≡ true) ⊎ IsInside rows (parent_of r)
inside_by rows n r place e at (above.here {p = p} s there operation) =
    let number : p ≡ n = same_Some p n e in
    let is : s ≡ r = same_Some s r (sym there ∙ ap (slice_get rows) number ∙ at) in
    inl (ap (λ (x : Row). is_operation_or_notification x.label.defined.kind) (sym is) ∙ operation)
inside_by rows n r place e at (above.further {p = p} s there rest) =
    let number : p ≡ n = same_Some p n e in
    let is : s ≡ r = same_Some s r (sym there ∙ ap (slice_get rows) number ∙ at) in
    inr (subst (λ (x : Row). IsInside rows (parent_of x)) is rest)

pub none_inside : (rows : List Row) (place : Option ℕ) → place ≡ None → IsInside rows place → ⊥
none_inside rows place e (above.here s there operation) = let h : Some _ ≡ None = e in cc
none_inside rows place e (above.further s there rest) = let h : Some _ ≡ None = e in cc

-- where the node itself is no operation, it stands inside one exactly where the node above does
pub inside_by_parent : (rows : List Row) (n : ℕ) (r : Row) → slice_get rows n ≡ Some r → is_operation_or_notification r.label.defined.kind ≡ false → IsInside rows (Some n) → IsInside rows (parent_of r)
inside_by_parent rows n r at plain i = elim (inside_by rows n r (Some n) refl at i) [
  | inl operation ↦ absurd (false≢true (sym plain ∙ operation))
  | inr rest ↦ rest
]

pub outside_at_top : (rows : List Row) (n : ℕ) (r : Row) → slice_get rows n ≡ Some r → is_operation_or_notification r.label.defined.kind ≡ false → parent_of r ≡ None → IsInside rows (Some n) → ⊥
outside_at_top rows n r at plain none i = none_inside rows (parent_of r) none (inside_by_parent rows n r at plain i)

pub inside_more : (rows : List Row) (n : ℕ) (inside new : List Bool) (flag : Bool) → length inside ≡ n → AreInside rows n inside
    → IsTrue flag ↔ IsInside rows (Some n) → new ≡ inside ++ flag ∷ [] → AreInside rows (n + 1) new
inside_more rows n inside new flag each known now more c l = elim (cases_lt c n) [
  | inl less ↦
      let same : slice_index_or new c false ≡ slice_index_or inside c false = ap (λ xs. slice_index_or xs c false) more ∙ get_or_append_left inside (flag ∷ []) false c (omega (arith, less, each)) in
      rw same (known c less)
  | inr up ↦
      let last : c ≡ n = omega (arith, up, l) in
      let got : slice_index_or new c false ≡ flag = ap (λ xs. slice_index_or xs c false) more ∙ ap (λ k. slice_index_or (inside ++ flag ∷ []) k false) (last ∙ sym each) ∙ last_of inside flag false in
      rw (got, last) now
]

pub longer : {A : Type 0} (xs : List A) (y : A) → length (xs ++ y ∷ []) ≡ length xs + 1
longer [] y = refl
longer (x ∷ xs) y = omega (arith, longer xs y)

pub past : {A : Type 0} (xs : List A) (i : ℕ) (d : A) → length xs ≤ i → slice_index_or xs i d ≡ d
past [] i d l = refl
past (x ∷ xs) zero d l = absurd (omega (arith, l))
past (x ∷ xs) (suc i) d l = past xs i d (omega (arith, l))
