-- The children of a node, one after the other, by their numbers and as trees.
use Rattle.std.proofs.Common.{◌≡◌, ℕ, suc, ◌+◌, ◌<◌, ◌==◌, List, ◌∷◌, length, get_or, drop, drop-cons, add-one, false, cond, sym, ap, ◌∙◌, subst, arith}
use Rattle.std.proofs.lemmas.Bool.Decides.{nat_tests}
use Rattle.yv_nodes.specs.declared.node.NodeId.{NodeId}
use Rattle.yv_nodes.specs.Numbers.{numbers_from}
use Rattle.yv_nodes.specs.Rows.{AreTrees, Rows, below, forest, rank, tree_of}
use Rattle.yv_nodes.specs.Tree.{count, Forest, tree}
use Rattle.yv_schema_tables.specs.Sound.{IsSound}

pub not_same : (n m : ℕ) → n < m → (n == m) ≡ false
not_same n m lt = grind (arith, nat_tests)

-- the first number below a node
pub rank_is : (s : Rows) (n : NodeId) → IsSound s → n.0 < length s.nodes → rank n ≡ n.0 + 1
rank_is s n sound lt = ap (λ b. cond b 0 (n.0 + 1)) (not_same n.0 4294967295 (omega (arith, sound.small, lt)))

pub trees_behind : (s : Rows) (c : NodeId) (cs : List NodeId) → AreTrees s (c ∷ cs) → AreTrees s cs
trees_behind s c cs trees = λ i d lt.
    let one : suc i + 1 ≡ suc (i + 1) = omega arith in
    let less : suc i < length (c ∷ cs) = omega (arith, lt) in
    subst (λ (n : ℕ). forest s (drop i cs) ≡ tree (tree_of s (get_or cs i d)) (forest s (drop n (c ∷ cs)))) one (trees (suc i) d less)

-- the first of nodes, and those behind it
pub record Splits (s : Rows) (at : ℕ) (c : NodeId) (cs : List NodeId) : Type 0 where
  pub first : at ≡ c.0
  pub here : forest s (c ∷ cs) ≡ tree (tree_of s c) (forest s cs)
  pub later : cs ≡ numbers_from (c.0 + 1 + count (below s c)) (forest s cs)

pub split_of : (s : Rows) (at : ℕ) (c : NodeId) (cs : List NodeId) → AreTrees s (c ∷ cs) → c ∷ cs ≡ numbers_from at (forest s (c ∷ cs)) → Splits s at c cs
split_of s at c cs trees are =
    let F : Forest = forest s cs in
    let n : NodeId = record { 0 = at } in
    let here : forest s (c ∷ cs) ≡ tree (tree_of s c) F = trees 0 c (omega arith) in
    let numbers : c ∷ cs ≡ n ∷ numbers_from (at + 1 + count (below s c)) F = are ∙ ap (numbers_from at) here in
    let same : c ≡ n = cc in
    let first : at ≡ c.0 = ap (λ (m : NodeId). m.0) (sym same) in
    let behind : cs ≡ numbers_from (at + 1 + count (below s c)) F = cc in
    record {
      first = first;
      here = here;
      later = behind ∙ ap (λ m. numbers_from (m + 1 + count (below s c)) F) first;
    }

-- the first of the nodes that are left
pub split_at : (cs : List NodeId) (i : ℕ) (d : NodeId) → i < length cs → drop i cs ≡ get_or cs i d ∷ drop (i + 1) cs
split_at cs i d lt = rw (add-one) (drop-cons cs i d lt)
