-- Which nodes stand in an object.
use Rattle.std.proofs.Common.{◌≡◌, ℕ, zero, suc, ◌<◌, ◌≤◌, ◌+◌, List, [], ◌∷◌, length, drop, get_or, true, refl, sym, ap, arith, inl, inr, subst}
use Rattle.yv_nodes.specs.declared.node.NodeId.{NodeId}
use Rattle.yv_nodes.specs.Numbers.{numbers_from}
use Rattle.yv_nodes.specs.Tree.{count, Forest, no_trees, node, tree}
use Rattle.yv_nodes.specs.Rows.{Rows, below, children_of, forest, rank}
use Rattle.yv_schema_tables.specs.Sound.{IsSound, is_object}
use Rattle.yv_walk.specs.Existence.{holds, passes, stands_in}
use Rattle.yv_walk.proofs.Above.{beneath, own_held}
use Rattle.yv_walk.proofs.Bools.{and_of}
use Rattle.yv_walk.proofs.MemberNodes.{IsHeld, is_held}
use Rattle.yv_walk.proofs.TreesInSchema.{IsAbove, IsIn, Sits, above_of, others_sit, picked_sit}

in_at : (cs : List NodeId) (i : ℕ) (d : NodeId) → i < length cs → IsIn (get_or cs i d) cs
in_at [] i d lt = absurd (omega (arith, lt))
in_at (c ∷ cs) zero d lt = inl refl
in_at (c ∷ cs) (suc i) d lt = inr (in_at cs i d (omega (arith, lt)))

pub child_stands : (s : Rows) (p : NodeId) (i : ℕ) (d : NodeId) → IsSound s → rank p ≤ length s.nodes → is_object s p ≡ true → i < length (children_of s p)
    → stands_in s p (get_or (children_of s p) i d) ≡ true
child_stands s p i d sound le object lt =
    let x : NodeId = get_or (children_of s p) i d in
    let own : IsIn x (numbers_from (rank p) (below s p)) = subst (λ (cs : List NodeId). IsIn x cs) (above_of s p sound le).are (in_at (children_of s p) i d lt) in
    and_of (is_object s p) (holds (rank p) (below s p) x) object (own_held (rank p) (below s p) x own)

pub inner_stands : (s : Rows) (p a : NodeId) (i : ℕ) (d : NodeId) → IsSound s → stands_in s p a ≡ true → passes s a ≡ true
    → i < length (children_of s a) → stands_in s p (get_or (children_of s a) i d) ≡ true
inner_stands s p a i d sound stands pass lt =
    let x : NodeId = get_or (children_of s a) i d in
    let h : IsHeld s p a = is_held s p a sound stands in
    and_of (is_object s p) (holds (rank p) (below s p) x) h.object (beneath s p (rank p) (below s p) x a h.sit (in_at (children_of s a) i d lt) pass h.held)

pub child_numbers : (s : Rows) (p : NodeId) → IsSound s → rank p ≤ length s.nodes → children_of s p ≡ numbers_from (rank p) (below s p)
child_numbers s p sound le = (above_of s p sound le).are

later_sit : (s : Rows) (p : NodeId) (at : ℕ) (ts : Forest) (i : ℕ) (d : NodeId) → Sits s p at ts → i < length (numbers_from at ts)
    → drop i (numbers_from at ts) ≡ numbers_from (get_or (numbers_from at ts) i d).0 (forest s (drop i (numbers_from at ts)))
later_sit s p at no_trees i d h lt = absurd (omega (arith, lt))
later_sit s p at (tree (node l kids) ts) zero d h lt = ap (numbers_from at) (sym (picked_sit s p at (tree (node l kids) ts) h))
later_sit s p at (tree (node l kids) ts) (suc i) d h lt = later_sit s p (at + 1 + count kids) ts i d (others_sit s p at l kids ts h) (omega (arith, lt))

pub later_numbers : (s : Rows) (p : NodeId) (i : ℕ) (d : NodeId) → IsSound s → rank p ≤ length s.nodes → i < length (children_of s p)
    → drop i (children_of s p) ≡ numbers_from (get_or (children_of s p) i d).0 (forest s (drop i (children_of s p)))
later_numbers s p i d sound le lt =
    let h : IsAbove s p = above_of s p sound le in
    let own : (cs : List NodeId) → cs ≡ numbers_from (rank p) (below s p) → i < length cs → drop i cs ≡ numbers_from (get_or cs i d).0 (forest s (drop i cs))
    = λ cs e. subst (λ (xs : List NodeId). i < length xs → drop i xs ≡ numbers_from (get_or xs i d).0 (forest s (drop i xs))) (sym e)
    (later_sit s p (rank p) (below s p) i d h.sit) in
    own (children_of s p) h.are lt
