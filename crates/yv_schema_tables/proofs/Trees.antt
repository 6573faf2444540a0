-- The tree of a row, from the rows of its children.
use Rattle.std.proofs.Common.{◌≡◌, ℕ, zero, suc, ◌+◌, ◌-◌, ◌<◌, ◌≤◌, List, [], ◌∷◌, length, get_or, refl, sym, ap, ◌∙◌, arith, true, false, All, drop, add-one, drop-cons, subst}
use Rattle.std.specs.List.{AllByRecursion, slice_index_or}
use Rattle.std.proofs.lemmas.List.Elements.{recursion_from_All, All-get_or}
use Rattle.std.proofs.lemmas.Bool.Decides.{nat_tests}
use Rattle.yv_nodes.specs.declared.node.NodeId.{NodeId}
use Rattle.yv_nodes.specs.Tree.{Tree, node, tree}
use Rattle.yv_nodes.specs.Rows.{Row, Rows, blank_row, blank, row_at, children_of, rank, is_root, pick, trees_from, below, forest, AreTrees}
use Rattle.yv_schema_tables.specs.Sound.{IsSound, IsChild}

-- each number is at least so
abbrev pub AllFrom : ℕ → List NodeId → Type 0
AllFrom low cs = AllByRecursion (λ (c : NodeId). low ≤ c.0) cs

-- a list that begins one number later has the same trees
pick_later : (first : ℕ) (x : Tree) (ts : List Tree) (cs : List NodeId) → AllFrom (first + 1) cs → pick (first + 1) ts cs ≡ pick first (x ∷ ts) cs
pick_later first x ts [] h = refl
pick_later first x ts (c ∷ cs) h =
    let step : c.0 - first ≡ suc (c.0 - (first + 1)) = omega (arith, h.0) in
    rw step (ap (tree (get_or ts (c.0 - (first + 1)) blank)) (pick_later first x ts cs h.1))

from_less : (low high : ℕ) (cs : List NodeId) → low ≤ high → AllFrom high cs → AllFrom low cs
from_less low high [] le h = tt
from_less low high (c ∷ cs) le h = (omega (arith, h.0), from_less low high cs le h.1)

tree_is_from : (first : ℕ) (rs : List Row) (i : ℕ) → i < length rs → AllFrom (first + i + 1) (get_or rs i blank_row).children
    → get_or (trees_from first rs) i blank ≡ node (get_or rs i blank_row).label (pick first (trees_from first rs) (get_or rs i blank_row).children)
tree_is_from first [] i lt h = absurd (omega arith)
tree_is_from first (r ∷ rs) zero lt h = ap (node r.label) (pick_later first _ _ r.children (from_less (first + 1) (first + 0 + 1) r.children (omega arith) h))
tree_is_from first (r ∷ rs) (suc i) lt h =
    let kids : List NodeId = (get_or rs i blank_row).children in
    let here : AllFrom (first + 1 + i + 1) kids = from_less (first + 1 + i + 1) (first + suc i + 1) kids (omega arith) h in
    tree_is_from (first + 1) rs i (omega arith) here ∙ ap (node (get_or rs i blank_row).label) (pick_later first _ _ kids (from_less (first + 1) (first + suc i + 1) kids (omega arith) h))

all_from : (s : Rows) (p : NodeId) (low : ℕ) (cs : List NodeId) → low ≤ rank p → AllByRecursion (IsChild s p) cs → AllFrom low cs
all_from s p low [] le h = tt
all_from s p low (c ∷ cs) le h = (omega (arith, h.0.behind), all_from s p low cs le h.1)

-- the tree that a node's number stands for, in a schema that is sound
tree_is : (s : Rows) (c : NodeId) → IsSound s → c.0 < length s.nodes → slice_index_or (trees_from 0 s.nodes) c.0 blank ≡ node (row_at s c).label (below s c)
tree_is s c sound lt =
    let inner : is_root c ≡ false = grind (arith, nat_tests, sound.small) in
    let kids_are : children_of s c ≡ (row_at s c).children = rw inner refl in
    let rank_is : rank c ≡ c.0 + 1 = rw inner refl in
    let all : All (IsChild s c) (row_at s c).children = rw kids_are at (sound.children c (omega (arith, rank_is))) in
    let from : AllFrom (0 + c.0 + 1) (row_at s c).children = all_from s c (0 + c.0 + 1) _ (omega (arith, rank_is)) (recursion_from_All (IsChild s c) _ all) in
    tree_is_from 0 s.nodes c.0 lt from ∙ ap (node (row_at s c).label) (ap (pick 0 (trees_from 0 s.nodes)) (sym kids_are))

-- the forest of a list of numbers, from the first on
forest_cons : (s : Rows) (c : NodeId) (cs : List NodeId) → IsSound s → c.0 < length s.nodes → forest s (c ∷ cs) ≡ tree (node (row_at s c).label (below s c)) (forest s cs)
forest_cons s c cs sound lt =
    let number : c.0 - 0 ≡ c.0 = omega arith in
    rw number (ap (λ t. tree t (forest s cs)) (tree_is s c sound lt))

-- the trees of a node's children are those of their numbers, one by one
pub are_trees : (s : Rows) (p : NodeId) (cs : List NodeId) → IsSound s → All (IsChild s p) cs → AreTrees s cs
are_trees s p cs sound all i d lt =
    let child : IsChild s p (get_or cs i d) = All-get_or (IsChild s p) cs i d lt all in
    rw (add-one, drop-cons cs i d) (forest_cons s (get_or cs i d) (drop (suc i) cs) sound child.within)

pub children_trees : (s : Rows) (p : NodeId) (cs : List NodeId) → IsSound s → rank p ≤ length s.nodes → cs ≡ children_of s p → AreTrees s cs
children_trees s p cs sound within is = are_trees s p cs sound (subst (λ (xs : List NodeId). All (IsChild s p) xs) (sym is) (sound.children p within))

pub children_at_root : (s : Rows) (p : NodeId) → is_root p ≡ true → children_of s p ≡ s.top
children_at_root s p root = rw root refl

pub children_below : (s : Rows) (p : NodeId) → is_root p ≡ false → children_of s p ≡ (row_at s p).children
children_below s p inner = rw inner refl
