-- The rows of a tree stand behind those above them.
use Rattle.std.proofs.Common.{◌≡◌, ◌⊎◌, inl, inr, ℕ, zero, suc, ◌+◌, ◌<◌, ◌≤◌, Bool, true, false, cond, List, [], ◌∷◌, ◌++◌, length, length-append, refl, sym, ◌∙◌, ap, arith, Some, None}
use Rattle.std.proofs.lemmas.Option.{same_Some, none-some}
use Rattle.std.specs.List.{slice_get}
use Rattle.yv_nodes.specs.declared.node.NodeId.{NodeId}
use Rattle.yv_nodes.specs.Tree.{Forest, no_trees, tree, node, count}
use Rattle.yv_nodes.specs.Rows.{Row, root, is_root}
use Rattle.yv_nodes.specs.Numbers.{numbers_from, rows_below, rows_from}
use Rattle.yv_node_leafrefs.specs.Above.{AreBehind, place_of}

-- what stands in one list behind another stands in one of them
split_at : {A : Type 0} (xs ys : List A) (k : ℕ) (x : A) → slice_get (xs ++ ys) k ≡ Some x → (slice_get xs k ≡ Some x) ⊎ ((j : ℕ) × (k ≡ length xs + j) × (slice_get ys j ≡ Some x))
split_at [] ys k x h = inr (k, omega arith, h)
split_at (y ∷ xs) ys zero x h = inl h
split_at (y ∷ xs) ys (suc k) x h = elim (split_at xs ys k x h) [ inl l ↦ inl l | inr (j, e, at) ↦ inr (j, omega (arith, e), at) ]

-- the row above is the parent, or stands among these before
abbrev IsNear : (parent : NodeId) → (first k : ℕ) → Row → Type 0
IsNear parent first k r = (r.parent ≡ parent) ⊎ ((first ≤ r.parent.0) × (r.parent.0 < first + k))

near : (parent : NodeId) (first : ℕ) (ts : Forest) (k : ℕ) (r : Row) → slice_get (rows_below parent first ts) k ≡ Some r → IsNear parent first k r
near parent first no_trees k r h = absurd (none-some r h)
near parent first (tree (node l kids) ts) zero r h =
    let own : Row = record { label = l; parent = parent; children = numbers_from (first + 1) kids } in
    inl (ap (λ (x : Row). x.parent) (sym (same_Some own r h)))
near parent first (tree (node l kids) ts) (suc k) r h =
    elim (split_at (rows_below (record { 0 = first }) (first + 1) kids) (rows_below parent (first + 1 + count kids) ts) k r h) [
      | inl at ↦ elim (near (record { 0 = first }) (first + 1) kids k r at) [
        | inl same ↦ let e : r.parent.0 ≡ first = ap (λ (n : NodeId). n.0) same in inr (omega (arith, e), omega (arith, e))
        | inr (low, high) ↦ inr (omega (arith, low), omega (arith, high))
      ]
      | inr (j, e, at) ↦ elim (near parent (first + 1 + count kids) ts j r at) [
        | inl same ↦ inl same
        | inr (low, high) ↦ inr (omega (arith, low), omega (arith, high, e, length_rows (record { 0 = first }) (first + 1) kids))
      ]
    ]
  where
    length_rows : (p : NodeId) (n : ℕ) (fs : Forest) → length (rows_below p n fs) ≡ count fs
    length_rows p n no_trees = refl
    length_rows p n (tree (node m ks) fs) =
        omega (arith, length-append (rows_below (record { 0 = n }) (n + 1) ks) (rows_below p (n + 1 + count ks) fs), length_rows (record { 0 = n }) (n + 1) ks, length_rows p (n + 1 + count ks) fs)

no_place : (n : NodeId) (p : ℕ) → n ≡ root → place_of n ≡ Some p → ⊥
no_place n p e h = none-some p (sym (ap place_of e) ∙ h)

place_is : (n : NodeId) (p : ℕ) → place_of n ≡ Some p → n.0 ≡ p
place_is n p h = by (is_root n) h
  where
    by : (b : Bool) → cond b None (Some n.0) ≡ Some p → n.0 ≡ p
    by true e = absurd (none-some p e)
    by false e = same_Some n.0 p e

pub behind : (ts : Forest) → AreBehind (rows_from 0 ts)
behind ts n p r at above = elim (near root 0 ts n r at) [
  | inl same ↦ absurd (no_place r.parent p same above)
  | inr (low, high) ↦ let is : r.parent.0 ≡ p = place_is r.parent p above in omega (arith, high, is)
]
