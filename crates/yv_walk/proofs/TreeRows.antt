-- The rows of a schema tree stand for that tree.
use Rattle.std.proofs.Common.{◌≡◌, ℕ, suc, ◌+◌, ◌-◌, List, [], ◌∷◌, ◌++◌, length, get_or, refl, sym, ap, ◌∙◌, arith, append_assoc, length-append}
use Rattle.yv_nodes.specs.declared.node.NodeId.{NodeId}
use Rattle.yv_nodes.specs.Tree.{count, Tree, node, Forest, no_trees, tree}
use Rattle.yv_nodes.specs.Rows.{Row, blank, pick, trees_from}
use Rattle.yv_nodes.specs.Numbers.{numbers_from, rows_below}

pub length_rows : (parent : NodeId) (first : ℕ) (ts : Forest) → length (rows_below parent first ts) ≡ count ts
length_rows parent first no_trees = refl
length_rows parent first (tree (node l kids) ts) =
    let own : NodeId = record { 0 = first } in
    omega (arith, length-append (rows_below own (first + 1) kids) (rows_below parent (first + 1 + count kids) ts), length_rows own (first + 1) kids, length_rows parent (first + 1 + count kids) ts)

-- all trees, each before those below it
abbrev pub all_trees : Forest → List Tree
all_trees no_trees = []
all_trees (tree (node l kids) ts) = node l kids ∷ all_trees kids ++ all_trees ts

length_all : (ts : Forest) → length (all_trees ts) ≡ count ts
length_all no_trees = refl
length_all (tree (node l kids) ts) = omega (arith, length-append (all_trees kids) (all_trees ts), length_all kids, length_all ts)

-- what stands at the place behind a front
at_front : (front rest : List Tree) (t : Tree) → get_or (front ++ t ∷ rest) (length front) blank ≡ t
at_front [] rest t = refl
at_front (x ∷ front) rest t = at_front front rest t

-- the trees of the numbers are picked from all trees
pub pick_all : (first at : ℕ) (front rest : List Tree) (ts : Forest) → at ≡ first + length front → pick first (front ++ all_trees ts ++ rest) (numbers_from at ts) ≡ ts
pick_all first at front rest no_trees e = refl
pick_all first at front rest (tree (node l kids) ts) e =
    let X : List Tree = front ++ all_trees (tree (node l kids) ts) ++ rest in
    let place : at - first ≡ length front = omega (arith, e) in
    let flat : X ≡ front ++ node l kids ∷ (all_trees kids ++ all_trees ts ++ rest) = simp append_assoc in
    let split : X ≡ (front ++ node l kids ∷ all_trees kids) ++ all_trees ts ++ rest = simp append_assoc in
    let next : at + 1 + count kids ≡ first + length (front ++ node l kids ∷ all_trees kids) =
    omega (arith, e, length-append front (node l kids ∷ all_trees kids), length_all kids) in
    let here : get_or X (at - first) blank ≡ node l kids =
    ap (λ (n : ℕ). get_or X n blank) place ∙ ap (λ (xs : List Tree). get_or xs (length front) blank) flat ∙ at_front front _ (node l kids) in
    let later : pick first X (numbers_from (at + 1 + count kids) ts) ≡ ts =
    ap (λ (xs : List Tree). pick first xs (numbers_from (at + 1 + count kids) ts)) split
    ∙ pick_all first (at + 1 + count kids) (front ++ node l kids ∷ all_trees kids) rest ts next in
    ap (λ (t : Tree). tree t (pick first X (numbers_from (at + 1 + count kids) ts))) here ∙ ap (tree (node l kids)) later

-- each row's tree is the one that it was made of
pub trees_rows : (parent : NodeId) (first : ℕ) (ts : Forest) (rest : List Row) → trees_from first (rows_below parent first ts ++ rest) ≡ all_trees ts ++ trees_from (first + count ts) rest
trees_rows parent first no_trees rest = ap (λ (n : ℕ). trees_from n rest) (omega arith)
trees_rows parent first (tree (node l kids) ts) rest =
    let own : NodeId = record { 0 = first } in
    let more : List Row = rows_below parent (first + 1 + count kids) ts ++ rest in
    let tail : (rows_below own (first + 1) kids ++ rows_below parent (first + 1 + count kids) ts) ++ rest ≡ rows_below own (first + 1) kids ++ more =
    append_assoc (rows_below own (first + 1) kids) (rows_below parent (first + 1 + count kids) ts) rest in
    let kids_trees : trees_from (first + 1) (rows_below own (first + 1) kids ++ more) ≡ all_trees kids ++ trees_from (first + 1 + count kids) more = trees_rows own (first + 1) kids more in
    let inner : pick (first + 1) (trees_from (first + 1) (rows_below own (first + 1) kids ++ more)) (numbers_from (first + 1) kids) ≡ kids =
    ap (λ (xs : List Tree). pick (first + 1) xs (numbers_from (first + 1) kids)) kids_trees ∙ pick_all (first + 1) (first + 1) [] (trees_from (first + 1 + count kids) more) kids (omega arith) in
    let others : trees_from (first + 1 + count kids) more ≡ all_trees ts ++ trees_from (first + 1 + count kids + count ts) rest = trees_rows parent (first + 1 + count kids) ts rest in
    let end : first + 1 + count kids + count ts ≡ first + (1 + count kids + count ts) = omega arith in
    rw (tail, inner, kids_trees, others, end) (ap (λ xs. node l kids ∷ xs) (sym (append_assoc (all_trees kids) (all_trees ts) _)))

-- the trees of rows, the first ones and those of the others
pub record AreBehind (first : ℕ) (front rest : List Row) : Type 0 where
  pub trees : List Tree
  pub many : length trees ≡ length front
  pub are : trees_from first (front ++ rest) ≡ trees ++ trees_from (first + length front) rest

pub behind : (first : ℕ) (front rest : List Row) → AreBehind first front rest
behind first [] rest = record { trees = []; many = refl; are = ap (λ (n : ℕ). trees_from n rest) (omega arith) }
behind first (r ∷ front) rest =
    let h : AreBehind (first + 1) front rest = behind (first + 1) front rest in
    let T : Tree = node r.label (pick (first + 1) (trees_from (first + 1) (front ++ rest)) r.children) in
    let end : first + 1 + length front ≡ first + length (r ∷ front) = omega arith in
    record {
      trees = T ∷ h.trees;
      many = ap suc h.many;
      are = ap (λ (ts : List Tree). T ∷ ts) h.are ∙ ap (λ (n : ℕ). T ∷ h.trees ++ trees_from n rest) end;
    }
