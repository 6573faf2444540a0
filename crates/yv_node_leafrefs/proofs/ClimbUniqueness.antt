-- A node has one place above it, and climbs lead to one place.
use Rattle.std.proofs.Common.{◌≡◌, ◌↔◌, ℕ, suc, ◌+◌, ◌-◌, ◌<◌, ◌≤◌, true, false, List, length, refl, sym, ◌∙◌, ap, subst, arith, Option, Some, None}
use Rattle.std.proofs.lemmas.Bool.{false≢true}
use Rattle.std.proofs.lemmas.Option.{same_Some, slice_get_within}
use Rattle.std.specs.List.{slice_get}
use Rattle.yv_node_content.specs.Kinds.{is_passed}
use Rattle.yv_nodes.specs.Rows.{Row}
use Rattle.yv_node_leafrefs.specs.Above.{parent_of, Closest, document, here, further, IsAbove}
use Rattle.yv_node_leafrefs.specs.Ways.{Climbs}

from_none : (rows : List Row) (p b : Option ℕ) → Closest rows p b → p ≡ None → b ≡ None
from_none rows p b document e = refl
from_none rows p b (here {p = q} r at plain) e = absurd (let h : Some q ≡ None = e in cc)
from_none rows p b (further {p = q} r at passed rest) e = absurd (let h : Some q ≡ None = e in cc)

from_plain : (rows : List Row) (p b : Option ℕ) (q : ℕ) (s : Row) → Closest rows p b → p ≡ Some q → slice_get rows q ≡ Some s → is_passed s.label.defined.kind ≡ false → b ≡ Some q
from_plain rows p b q s document e there plain = absurd (let h : None ≡ Some q = e in cc)
from_plain rows p b q s (here r at own) e there plain = e
from_plain rows p b q s (further {p = n} r at passed rest) e there plain =
    let number : n ≡ q = same_Some n q e in
    let is : r ≡ s = same_Some r s (sym at ∙ ap (slice_get rows) number ∙ there) in
    absurd (false≢true (sym plain ∙ ap (λ (x : Row). is_passed x.label.defined.kind) (sym is) ∙ passed))

from_passed : (rows : List Row) (p b : Option ℕ) (q : ℕ) (s : Row) → Closest rows p b → p ≡ Some q → slice_get rows q ≡ Some s → is_passed s.label.defined.kind ≡ true → Closest rows (parent_of s) b
from_passed rows p b q s document e there passed = absurd (let h : None ≡ Some q = e in cc)
from_passed rows p b q s (here {p = n} r at own) e there passed =
    let number : n ≡ q = same_Some n q e in
    let is : r ≡ s = same_Some r s (sym at ∙ ap (slice_get rows) number ∙ there) in
    absurd (false≢true (sym own ∙ ap (λ (x : Row). is_passed x.label.defined.kind) is ∙ passed))
from_passed rows p b q s (further {p = n} r at own rest) e there passed =
    let number : n ≡ q = same_Some n q e in
    let is : r ≡ s = same_Some r s (sym at ∙ ap (slice_get rows) number ∙ there) in
    subst (λ (x : Row). Closest rows (parent_of x) b) is rest

pub closest_one : (rows : List Row) (p a b : Option ℕ) → Closest rows p a → Closest rows p b → a ≡ b
closest_one rows p a b document other = sym (from_none rows None b other refl)
closest_one rows p a b (here {p = q} r at plain) other = sym (from_plain rows (Some q) b q r other refl at plain)
closest_one rows p a b (further {p = q} r at passed rest) other = closest_one rows (parent_of r) a b rest (from_passed rows (Some q) b q r other refl at passed)

pub closest_within : (rows : List Row) (p a : Option ℕ) (n : ℕ) → Closest rows p a → a ≡ Some n → n < length rows
closest_within rows p a n document e = absurd (let h : None ≡ Some n = e in cc)
closest_within rows p a n (here {p = q} r at plain) e = let number : q ≡ n = same_Some q n e in subst (λ k. k < length rows) number (slice_get_within rows q r at)
closest_within rows p a n (further {p = q} r at passed rest) e = closest_within rows (parent_of r) a n rest e

pub above_one : (rows : List Row) (c : ℕ) (a b : Option ℕ) → IsAbove rows a c → IsAbove rows b c → a ≡ b
above_one rows c a b (r, at, x) (s, there, y) =
    let is : r ≡ s = same_Some r s (sym at ∙ there) in
    closest_one rows (parent_of s) a b (subst (λ (z : Row). Closest rows (parent_of z) a) is x) y

-- one climb
pub climbs_next : (rows : List Row) (k i c : ℕ) (a b : Option ℕ) → i < k → IsAbove rows a c → Climbs rows (k - i) (Some c) b ↔ Climbs rows (k - (i + 1)) a b
climbs_next rows k i c a b l above = rw (let e : k - i ≡ suc (k - (i + 1)) = omega arith in e) (
  (λ (x, up, rest). subst (λ (z : Option ℕ). Climbs rows (k - (i + 1)) z b) (above_one rows c x a up above) rest),
  (λ rest. (a, above, rest)),
)

pub climbs_past : (rows : List Row) (k i : ℕ) (b : Option ℕ) → i < k → Climbs rows (k - i) None b → ⊥
climbs_past rows k i b l = rw (let e : k - i ≡ suc (k - (i + 1)) = omega arith in e) (λ h. h)

pub climbs_done : (rows : List Row) (k i : ℕ) (a b : Option ℕ) → k ≤ i → Climbs rows (k - i) a b ↔ (a ≡ b)
climbs_done rows k i a b l = rw (let e : k - i ≡ 0 = omega arith in e) ((λ h. h), (λ h. h))
