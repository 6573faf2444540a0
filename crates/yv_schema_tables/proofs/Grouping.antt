-- Trees one list behind the other, and their numbers.
use Rattle.std.proofs.Common.{◌≡◌, ℕ, ◌+◌, List, ◌∷◌, ◌++◌, refl, sym, ap, arith, append_assoc}
use Rattle.yv_nodes.specs.declared.node.NodeId.{NodeId}
use Rattle.yv_nodes.specs.Tree.{count, node, Forest, no_trees, tree}
use Rattle.yv_nodes.specs.Rows.{Row}
use Rattle.yv_nodes.specs.Numbers.{numbers_from, rows_below}
use Rattle.yv_schema_tables.specs.Groups.{join}

-- what follows stands behind
pub joined_assoc : (ts us vs : Forest) → join (join ts us) vs ≡ join ts (join us vs)
joined_assoc no_trees us vs = refl
joined_assoc (tree t ts) us vs = ap (tree t) (joined_assoc ts us vs)

-- the numbers and rows of trees of which one list stands behind the other
pub rows_joined : (parent : NodeId) (first : ℕ) (ts us : Forest) → rows_below parent first (join ts us) ≡ rows_below parent first ts ++ rows_below parent (first + count ts) us
rows_joined parent first no_trees us = ap (λ (n : ℕ). rows_below parent n us) (omega arith)
rows_joined parent first (tree (node l kids) ts) us =
    let own : NodeId = record { 0 = first } in
    let end : first + 1 + count kids + count ts ≡ first + (1 + count kids + count ts) = omega arith in
    rw (rows_joined parent (first + 1 + count kids) ts us, end)
    (ap (λ (rs : List Row). record { label = l; parent = parent; children = numbers_from (first + 1) kids } ∷ rs) (sym (append_assoc (rows_below own (first + 1) kids) (rows_below parent (first + 1 + count kids) ts) _)))

pub numbers_joined : (first : ℕ) (ts us : Forest) → numbers_from first (join ts us) ≡ numbers_from first ts ++ numbers_from (first + count ts) us
numbers_joined first no_trees us = ap (λ (n : ℕ). numbers_from n us) (omega arith)
numbers_joined first (tree (node l kids) ts) us =
    let end : first + 1 + count kids + count ts ≡ first + (1 + count kids + count ts) = omega arith in
    rw (numbers_joined (first + 1 + count kids) ts us, end) refl
