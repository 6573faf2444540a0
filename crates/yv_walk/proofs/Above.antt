-- A node stands in those choices and cases that are at or above its parent.
use Rattle.std.proofs.Common.{◌≡◌, ℕ, ◌==◌, ◌||◌, ◌&&◌, ◌<◌, ◌≤◌, ◌+◌, length, List, Bool, true, false, cond, ◌⊎◌, inl, inr, refl, sym, ap, ◌∙◌, eqb-true, eq-eqb, arith, subst}
use Rattle.std.proofs.lemmas.Bool.{false≢true}
use Rattle.yv_node_content.specs.Kinds.{is_passed}
use Rattle.yv_nodes.specs.declared.node.NodeId.{NodeId}
use Rattle.yv_nodes.specs.Tree.{count, Forest, no_trees, node, tree}
use Rattle.yv_nodes.specs.Numbers.{numbers_from}
use Rattle.yv_nodes.specs.Rows.{Row, Rows, below, children_of, is_root, rank, row_at}
use Rattle.yv_schema_tables.specs.Sound.{IsSound}
use Rattle.yv_walk.specs.Existence.{passes, holds}
use Rattle.yv_walk.proofs.Bools.{and_of, and_true, or_left, or_right, or_true, same_bool}
use Rattle.yv_walk.proofs.Joins.{one_number}
use Rattle.yv_walk.proofs.TreesInSchema.{IsAbove, IsIn, IsPlaced, Sits, above_of, every, kids_numbers, kids_sit, numbered, others_sit, passes_first, place_of, row_same}

-- what is held has one of the numbers
pub held_within : (at : ℕ) (ts : Forest) (x : NodeId) → holds at ts x ≡ true → (at ≤ x.0) × (x.0 < at + count ts)
held_within at no_trees x e = absurd (false≢true e)
held_within at (tree (node l kids) ts) x e =
    elim (or_true ((at == x.0) || (is_passed l.defined.kind && holds (at + 1) kids x)) (holds (at + 1 + count kids) ts x) e) [
      | inl f ↦ elim (or_true (at == x.0) (is_passed l.defined.kind && holds (at + 1) kids x) f) [
        | inl g ↦ let same : at ≡ x.0 = eqb-true at x.0 g in (omega (arith, same), omega (arith, same))
        | inr g ↦ let h = held_within (at + 1) kids x (and_true (is_passed l.defined.kind) (holds (at + 1) kids x) g).1 in (omega (arith, h.0), omega (arith, h.1))
      ]
      | inr f ↦ let h = held_within (at + 1 + count kids) ts x f in (omega (arith, h.0), omega (arith, h.1))
    ]

-- the trees' own nodes are held
pub own_held : (at : ℕ) (ts : Forest) (x : NodeId) → IsIn x (numbers_from at ts) → holds at ts x ≡ true
own_held at no_trees x h = absurd h
own_held at (tree (node l kids) ts) x (inl e) =
    or_left ((at == x.0) || (is_passed l.defined.kind && holds (at + 1) kids x)) (holds (at + 1 + count kids) ts x)
    (or_left (at == x.0) (is_passed l.defined.kind && holds (at + 1) kids x) (eq-eqb at x.0 (ap (λ (n : NodeId). n.0) (sym e))))
own_held at (tree (node l kids) ts) x (inr h) =
    or_right ((at == x.0) || (is_passed l.defined.kind && holds (at + 1) kids x)) (holds (at + 1 + count kids) ts x) (own_held (at + 1 + count kids) ts x h)

-- a node that is held is a child, or its parent is a choice or case that is held
above : (s : Rows) (p : NodeId) (at : ℕ) (ts : Forest) (x y : NodeId) → Sits s p at ts → (row_at s x).parent ≡ y → holds at ts x ≡ true
    → (y ≡ p) ⊎ ((passes s y ≡ true) × (holds at ts y ≡ true))
above s p at no_trees x y h is e = absurd (false≢true e)
above s p at (tree (node l kids) ts) x y h is e =
    elim (or_true ((at == x.0) || (is_passed l.defined.kind && holds (at + 1) kids x)) (holds (at + 1 + count kids) ts x) e) [
      | inl f ↦ elim (or_true (at == x.0) (is_passed l.defined.kind && holds (at + 1) kids x) f) [
        | inl g ↦ inl (sym is ∙ ap (λ (r : Row). r.parent) (row_same s p at l kids ts h x (eqb-true at x.0 g)))
        | inr g ↦
            let b = and_true (is_passed l.defined.kind) (holds (at + 1) kids x) g in
            elim (above s (numbered at) (at + 1) kids x y (kids_sit s p at l kids ts h) is b.1) [
              | inl q ↦
                  let same : at ≡ y.0 = ap (λ (n : NodeId). n.0) (sym q) in
                  inr (
                    passes_first s p at l kids ts h y same ∙ b.0,
                    or_left ((at == y.0) || (is_passed l.defined.kind && holds (at + 1) kids y)) (holds (at + 1 + count kids) ts y)
                        (or_left (at == y.0) (is_passed l.defined.kind && holds (at + 1) kids y) (eq-eqb at y.0 same)),
                  )
              | inr q ↦ inr (
                q.0,
                or_left ((at == y.0) || (is_passed l.defined.kind && holds (at + 1) kids y)) (holds (at + 1 + count kids) ts y)
                    (or_right (at == y.0) (is_passed l.defined.kind && holds (at + 1) kids y) (and_of (is_passed l.defined.kind) (holds (at + 1) kids y) b.0 q.1)),
              )
            ]
      ]
      | inr f ↦ elim (above s p (at + 1 + count kids) ts x y (others_sit s p at l kids ts h) is f) [
        | inl q ↦ inl q
        | inr q ↦ inr (q.0, or_right ((at == y.0) || (is_passed l.defined.kind && holds (at + 1) kids y)) (holds (at + 1 + count kids) ts y) q.1)
      ]
    ]

-- the children of a choice or case that is held are held
pub beneath : (s : Rows) (p : NodeId) (at : ℕ) (ts : Forest) (x y : NodeId) → Sits s p at ts → IsIn x (children_of s y) → passes s y ≡ true
    → holds at ts y ≡ true → holds at ts x ≡ true
beneath s p at no_trees x y h is pass e = e
beneath s p at (tree (node l kids) ts) x y h is pass e =
    elim (or_true ((at == y.0) || (is_passed l.defined.kind && holds (at + 1) kids y)) (holds (at + 1 + count kids) ts y) e) [
      | inl f ↦ or_left ((at == x.0) || (is_passed l.defined.kind && holds (at + 1) kids x)) (holds (at + 1 + count kids) ts x)
          (or_right (at == x.0) (is_passed l.defined.kind && holds (at + 1) kids x) (elim (or_true (at == y.0) (is_passed l.defined.kind && holds (at + 1) kids y) f) [
            | inl g ↦
                let same : at ≡ y.0 = eqb-true at y.0 g in
                let child : IsIn x (numbers_from (at + 1) kids) = subst (λ (cs : List NodeId). IsIn x cs)
                (ap (children_of s) (sym (one_number (numbered at) y same)) ∙ kids_numbers s p at l kids ts h) is in
                and_of (is_passed l.defined.kind) (holds (at + 1) kids x) (sym (passes_first s p at l kids ts h y same) ∙ pass) (own_held (at + 1) kids x child)
            | inr g ↦
                let b = and_true (is_passed l.defined.kind) (holds (at + 1) kids y) g in
                and_of (is_passed l.defined.kind) (holds (at + 1) kids x) b.0 (beneath s (numbered at) (at + 1) kids x y (kids_sit s p at l kids ts h) is pass b.1)
          ]))
      | inr f ↦ or_right ((at == x.0) || (is_passed l.defined.kind && holds (at + 1) kids x)) (holds (at + 1 + count kids) ts x)
          (beneath s p (at + 1 + count kids) ts x y (others_sit s p at l kids ts h) is pass f)
    ]

-- y is the choice or case a, or one that stands in it
abbrev pub is_at : Rows → (a y : NodeId) → Bool
is_at s a y = passes s y && ((y.0 == a.0) || holds (rank a) (below s a) y)

rank_by : (b : Bool) (n len : ℕ) → n < len → cond b 0 (n + 1) ≤ len
rank_by true n len lt = omega arith
rank_by false n len lt = omega (arith, lt)

pub rank_within : (s : Rows) (x : NodeId) → x.0 < length s.nodes → rank x ≤ length s.nodes
rank_within s x lt = rank_by (is_root x) x.0 (length s.nodes) lt

-- one climb
pub climb : (s : Rows) (a x : NodeId) → IsSound s → a.0 < length s.nodes → passes s a ≡ true → x.0 < length s.nodes
    → holds (rank a) (below s a) x ≡ is_at s a (row_at s x).parent
climb s a x sound in_a pass lt =
    let y = (row_at s x).parent in
    let at : IsAbove s a = above_of s a sound (rank_within s a in_a) in
    same_bool (holds (rank a) (below s a) x) (is_at s a y)
    (λ h. elim (above s a (rank a) (below s a) x y at.sit refl h) [
      | inl e ↦ and_of (passes s y) _ (ap (passes s) e ∙ pass) (or_left (y.0 == a.0) _ (eq-eqb y.0 a.0 (ap (λ (m : NodeId). m.0) e)))
      | inr q ↦ and_of (passes s y) _ q.0 (or_right (y.0 == a.0) _ q.1)
    ])
    (λ h. let b = and_true (passes s y) ((y.0 == a.0) || holds (rank a) (below s a) y) h in
    elim (or_true (y.0 == a.0) (holds (rank a) (below s a) y) b.1) [
      | inl e ↦
          let own : IsIn x (children_of s a) = subst (λ (q : NodeId). IsIn x (children_of s q)) (one_number y a (eqb-true y.0 a.0 e)) (every s sound x lt) in
          own_held (rank a) (below s a) x (subst (λ (cs : List NodeId). IsIn x cs) at.are own)
      | inr e ↦ beneath s a (rank a) (below s a) x y at.sit (every s sound x lt) b.0 e
    ])

inner_by : (b : Bool) (n len : ℕ) (q : Bool) → cond b 0 (n + 1) ≤ len → cond b false q ≡ true → n < len
inner_by true n len q le h = absurd (false≢true h)
inner_by false n len q le h = omega (arith, le)

-- a choice or case has a row
pub inner_row : (s : Rows) (y : NodeId) → rank y ≤ length s.nodes → passes s y ≡ true → y.0 < length s.nodes
inner_row s y le h = inner_by (is_root y) y.0 (length s.nodes) (is_passed (row_at s y).label.defined.kind) le h

pub parent_low : (s : Rows) (x : NodeId) → IsSound s → x.0 < length s.nodes → rank (row_at s x).parent ≤ x.0
parent_low s x sound lt =
    let h : IsPlaced s x.0 = place_of s sound x.0 lt in
    subst (λ (q : NodeId). rank q ≤ x.0) (ap (λ (r : Row). r.parent) (sym (row_same s h.parent x.0 h.label h.kids h.others h.sit x refl))) h.low

pub parent_within : (s : Rows) (x y : NodeId) → IsSound s → x.0 < length s.nodes → y ≡ (row_at s x).parent → rank y ≤ length s.nodes
parent_within s x y sound lt e =
    let low : rank (row_at s x).parent ≤ x.0 = parent_low s x sound lt in
    let same : rank y ≡ rank (row_at s x).parent = ap rank e in
    omega (arith, same, low, lt)

rank_above : (b : Bool) (n : ℕ) (q : Bool) → cond b false q ≡ true → cond b 0 (n + 1) ≡ n + 1
rank_above true n q h = absurd (false≢true h)
rank_above false n q h = refl

-- each climb leads nearer to the root
pub parent_less : (s : Rows) (x y : NodeId) → IsSound s → rank x ≤ length s.nodes → passes s x ≡ true → y ≡ (row_at s x).parent → rank y < rank x
parent_less s x y sound le pass e =
    let low : rank (row_at s x).parent ≤ x.0 = parent_low s x sound (inner_row s x le pass) in
    let same : rank y ≡ rank (row_at s x).parent = ap rank e in
    let own : rank x ≡ x.0 + 1 = rank_above (is_root x) x.0 (is_passed (row_at s x).label.defined.kind) pass in
    omega (arith, same, low, own)
