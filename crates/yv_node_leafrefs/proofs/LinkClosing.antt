-- A node has one place above it.
use Rattle.std.proofs.Common.{◌≡◌, ℕ, true, false, List, refl, sym, ◌∙◌, ap, subst, Option, Some, None}
use Rattle.std.proofs.lemmas.Bool.{false≢true}
use Rattle.std.proofs.lemmas.Option.{same_Some}
use Rattle.std.specs.List.{slice_get}
use Rattle.yv_node_content.specs.Kinds.{is_passed}
use Rattle.yv_node_content.specs.Steps.{Step}
use Rattle.yv_nodes.specs.Rows.{Row}
use Rattle.yv_node_leafrefs.specs.Above.{parent_of, Closest, document, here, further, IsAbove}
use Rattle.yv_node_leafrefs.specs.Ways.{Means}

pub from_none : (rows : List Row) (p b : Option ℕ) → Closest rows p b → p ≡ None → b ≡ None
from_none rows p b document e = refl
from_none rows p b (here {p = q} r at plain) e = absurd (let h : Some q ≡ None = e in cc)
from_none rows p b (further {p = q} r at passed rest) e = absurd (let h : Some q ≡ None = e in cc)

pub from_plain : (rows : List Row) (p b : Option ℕ) (q : ℕ) (s : Row) → Closest rows p b → p ≡ Some q → slice_get rows q ≡ Some s
    → is_passed s.label.defined.kind ≡ false → b ≡ Some q
from_plain rows p b q s document e there plain = absurd (let h : None ≡ Some q = e in cc)
from_plain rows p b q s (here r at own) e there plain = e
from_plain rows p b q s (further {p = n} r at passed rest) e there plain =
    let number : n ≡ q = same_Some n q e in
    let is : r ≡ s = same_Some r s (sym at ∙ ap (slice_get rows) number ∙ there) in
    absurd (false≢true (sym plain ∙ ap (λ (x : Row). is_passed x.label.defined.kind) (sym is) ∙ passed))

pub from_passed : (rows : List Row) (p b : Option ℕ) (q : ℕ) (s : Row) → Closest rows p b → p ≡ Some q → slice_get rows q ≡ Some s
    → is_passed s.label.defined.kind ≡ true → Closest rows (parent_of s) b
from_passed rows p b q s document e there passed = absurd (let h : None ≡ Some q = e in cc)
from_passed rows p b q s (here {p = n} r at own) e there passed =
    let number : n ≡ q = same_Some n q e in
    let is : r ≡ s = same_Some r s (sym at ∙ ap (slice_get rows) number ∙ there) in
    absurd (false≢true (sym own ∙ ap (λ (x : Row). is_passed x.label.defined.kind) is ∙ passed))
from_passed rows p b q s (further {p = n} r at own rest) e there passed =
    let number : n ≡ q = same_Some n q e in
    let is : r ≡ s = same_Some r s (sym at ∙ ap (slice_get rows) number ∙ there) in
    subst (λ (x : Row). Closest rows (parent_of x) b) is rest

pub closest_one : (rows : List Row) (p a b : Option ℕ) → Closest rows p a → Closest rows p b → a ≡ b
closest_one rows p a b document other = sym (from_none rows None b other refl)
closest_one rows p a b (here {p = q} r at plain) other = sym (from_plain rows (Some q) b q r other refl at plain)
closest_one rows p a b (further {p = q} r at passed rest) other =
    closest_one rows (parent_of r) a b rest (from_passed rows (Some q) b q r other refl at passed)

pub above_one : (rows : List Row) (c : ℕ) (a b : Option ℕ) → IsAbove rows a c → IsAbove rows b c → a ≡ b
above_one rows c a b (r, at, x) (s, there, y) =
    let is : r ≡ s = same_Some r s (sym at ∙ there) in
    closest_one rows (parent_of s) a b (subst (λ (z : Row). Closest rows (parent_of z) a) is x) y

-- the node that a step means below a place stands there
pub child_above : (rows : List Row) (own : ℕ) (a : Option ℕ) (s : Option Step) (c : ℕ) → Means rows own a s c → IsAbove rows a c
child_above rows own a None c h = absurd h
child_above rows own a (Some s) c (child, least) = (child.row, child.at, child.above)
