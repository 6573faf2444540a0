-- Leafs that are named, one after the other.
use Rattle.std.proofs.Common.{◌≡◌, ℕ, zero, suc, ◌+◌, ◌<◌, List, [], ◌∷◌, length, get_or, drop, drop-cons, add-one, map, Option, Some, ap, arith}
use Rattle.yv_nodes.specs.declared.node.NodeId.{NodeId}

abbrev pub named_leafs : List NodeId → List (Option NodeId)
named_leafs ids = map (λ (n : NodeId). Some n) ids

pub leafs_drop : (ids : List NodeId) (i : ℕ) (d : NodeId) → i < length ids → named_leafs (drop i ids) ≡ Some (get_or ids i d) ∷ named_leafs (drop (i + 1) ids)
leafs_drop ids i d lt = let split : drop i ids ≡ get_or ids i d ∷ drop (i + 1) ids = rw (add-one) (drop-cons ids i d lt) in ap named_leafs split

pub first_left : (us : List (List (Option NodeId))) (i : ℕ) (u : List (Option NodeId)) → i < length us → drop i us ≡ get_or us i u ∷ drop (i + 1) us
first_left us i u lt = rw (add-one) (drop-cons us i u lt)

-- a statement of a mapped list
pub get_map : {X Y : Type 0} (f : X → Y) (xs : List X) (i : ℕ) (x : X) → i < length xs → x ≡ get_or xs i x → f x ≡ get_or (map f xs) i (f x)
get_map f [] i x lt is = absurd (omega arith)
get_map f (y ∷ ys) zero x lt is = ap f is
get_map f (y ∷ ys) (suc i) x lt is = get_map f ys i x (omega arith) is
