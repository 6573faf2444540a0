-- The module at the top of the way to a node, one node further up.
use Rattle.std.proofs.Common.{◌≡◌, ℕ, zero, suc, ◌+◌, ◌<◌, ◌≤◌, List, [], ◌∷◌, ◌++◌, length, get_or, refl, sym, ap, ◌∙◌, subst, arith, Bool, true, false, if◌then◌else◌, length-append}
use Rattle.yv_nodes.specs.declared.node.NodeId.{NodeId}
use Rattle.yv_nodes.specs.Tree.{Forest, count, no_trees, node, tree}
use Rattle.yv_nodes.specs.Numbers.{rows_below}
use Rattle.yv_nodes.specs.Rows.{Row, Rows, blank_row, is_root, rank, root, row_at, whole}
use Rattle.yv_schema_tables.specs.Sound.{IsSound}
use Rattle.yv_tree.specs.Diagram.{first_module_file, module_files_from}

-- the row of each of these numbers has a parent before it
abbrev pub AreBehind : ℕ → List Row → Type 0
AreBehind first rs = (k : ℕ) → k < length rs → rank (get_or rs k blank_row).parent ≤ first + k

behind_more : (first : ℕ) (xs ys : List Row) → AreBehind first xs → AreBehind (first + length xs) ys → AreBehind first (xs ++ ys)
behind_more first [] ys h i k lt = let g : rank (get_or ys k blank_row).parent ≤ first + zero + k = i k lt in omega arith
behind_more first (x ∷ xs) ys h i zero lt = h 0 (omega arith)
behind_more first (x ∷ xs) ys h i (suc k) lt =
    let front : AreBehind (first + 1) xs = λ n less. let g : rank (get_or xs n blank_row).parent ≤ first + suc n = h (suc n) (omega arith) in omega arith in
    let back : AreBehind (first + 1 + length xs) ys = λ n less. let g : rank (get_or ys n blank_row).parent ≤ first + suc (length xs) + n = i n less in omega arith in
    let g : rank (get_or (xs ++ ys) k blank_row).parent ≤ first + 1 + k = behind_more (first + 1) xs ys front back k (omega arith) in
    omega arith

length_rows : (parent : NodeId) (first : ℕ) (ts : Forest) → length (rows_below parent first ts) ≡ count ts
length_rows parent first no_trees = refl
length_rows parent first (tree (node l kids) ts) =
    let own : NodeId = record { 0 = first } in
    omega (arith, length-append (rows_below own (first + 1) kids) (rows_below parent (first + 1 + count kids) ts), length_rows own (first + 1) kids, length_rows parent (first + 1 + count kids) ts)

rank_under : (b : Bool) (n : ℕ) → (if b then 0 else n + 1) ≤ n + 1
rank_under true n = omega arith
rank_under false n = omega arith

-- rows as they are numbered stand behind their parents
behind_below : (parent : NodeId) (first : ℕ) (ts : Forest) → rank parent ≤ first → AreBehind first (rows_below parent first ts)
behind_below parent first no_trees h k lt = absurd (omega arith)
behind_below parent first (tree (node l kids) ts) h zero lt = omega (arith, h)
behind_below parent first (tree (node l kids) ts) h (suc k) lt =
    let own : NodeId = record { 0 = first } in
    let inner : List Row = rows_below own (first + 1) kids in
    let others : List Row = rows_below parent (first + 1 + count kids) ts in
    let many : length inner ≡ count kids = length_rows own (first + 1) kids in
    let next : first + 1 + length inner ≡ first + 1 + count kids = omega arith in
    let later : AreBehind (first + 1 + count kids) others = behind_below parent (first + 1 + count kids) ts (omega (arith, h)) in
    let last : AreBehind (first + 1 + length inner) others = subst (λ n. AreBehind n others) (sym next) later in
    let all : AreBehind (first + 1) (inner ++ others) = behind_more (first + 1) inner others (behind_below own (first + 1) kids (rank_under (is_root own) first)) last in
    let g : rank (get_or (inner ++ others) k blank_row).parent ≤ first + 1 + k = all k (omega arith) in
    omega arith

-- each node of a schema stands behind its parent
parents : (s : Rows) (c : NodeId) → IsSound s → c.0 < length s.nodes → rank (row_at s c).parent ≤ c.0
parents s c sound lt =
    let all : AreBehind 0 s.nodes = subst (λ (rs : List Row). AreBehind 0 rs) (sym sound.rows) (behind_below root 0 (whole s) (omega arith)) in
    let g : rank (row_at s c).parent ≤ 0 + c.0 = all c.0 lt in
    omega arith

-- so does the number of its parent, where it isn't at the top
pub parent_before : (s : Rows) (c : NodeId) → IsSound s → c.0 < length s.nodes → is_root (row_at s c).parent ≡ false → (row_at s c).parent.0 < c.0
parent_before s c sound lt inner =
    let behind : rank (row_at s c).parent ≤ c.0 = parents s c sound lt in
    let is : rank (row_at s c).parent ≡ (row_at s c).parent.0 + 1 = rw inner refl in
    omega arith

-- an element at the front of a longer list
pub in_front : {X : Type 0} (xs ys : List X) (k : ℕ) (d : X) → k < length xs → get_or (xs ++ ys) k d ≡ get_or xs k d
in_front [] ys k d lt = absurd (omega arith)
in_front (x ∷ xs) ys zero d lt = refl
in_front (x ∷ xs) ys (suc k) d lt = in_front xs ys k d (omega arith)

-- the element behind it
pub right_behind : {X : Type 0} (xs : List X) (y d : X) → get_or (xs ++ y ∷ []) (length xs) d ≡ y
right_behind [] y d = refl
right_behind (x ∷ xs) y d = right_behind xs y d

-- what a row adds
abbrev pub added_group : List ℕ → Row → ℕ
added_group done r = if is_root r.parent then r.label.module_file else get_or done r.parent.0 0

pub length_more : {X : Type 0} (xs : List X) (y : X) → length (xs ++ y ∷ []) ≡ suc (length xs)
length_more [] y = refl
length_more (x ∷ xs) y = ap suc (length_more xs y)

-- what stands there stays
kept : (done : List ℕ) (rs : List Row) (k : ℕ) → k < length done → get_or (module_files_from done rs) k 0 ≡ get_or done k 0
kept done [] k lt = refl
kept done (r ∷ rs) k lt =
    let more : length (done ++ added_group done r ∷ []) ≡ suc (length done) = length_more done (added_group done r) in
    kept (done ++ added_group done r ∷ []) rs k (omega arith) ∙ in_front done (added_group done r ∷ []) k 0 lt

same_added : (b : Bool) (m u v : ℕ) → (b ≡ false → u ≡ v) → (if b then m else u) ≡ (if b then m else v)
same_added true m u v h = refl
same_added false m u v h = h refl

-- of a row here, where its parent stands before it
at_row : (done : List ℕ) (rs : List Row) (k : ℕ) → k < length rs → (is_root (get_or rs k blank_row).parent ≡ false → (get_or rs k blank_row).parent.0 < length done + k)
    → get_or (module_files_from done rs) (length done + k) 0 ≡ added_group (module_files_from done rs) (get_or rs k blank_row)
at_row done [] k lt before = absurd (omega arith)
at_row done (r ∷ rs) zero lt before =
    let x : ℕ = added_group done r in
    let more : length (done ++ x ∷ []) ≡ suc (length done) = length_more done x in
    let here : length done + zero ≡ length done = omega arith in
    let own : get_or (module_files_from (done ++ x ∷ []) rs) (length done) 0 ≡ x =
    kept (done ++ x ∷ []) rs (length done) (omega arith) ∙ right_behind done x 0 in
    let up : is_root r.parent ≡ false → get_or done r.parent.0 0 ≡ get_or (module_files_from (done ++ x ∷ []) rs) r.parent.0 0 =
    λ inner. let low : r.parent.0 < length done + zero = before inner in
    sym (kept (done ++ x ∷ []) rs r.parent.0 (omega arith) ∙ in_front done (x ∷ []) r.parent.0 0 (omega arith)) in
    ap (λ n. get_or (module_files_from (done ++ x ∷ []) rs) n 0) here ∙ own ∙ same_added (is_root r.parent) r.label.module_file _ _ up
at_row done (r ∷ rs) (suc k) lt before =
    let x : ℕ = added_group done r in
    let more : length (done ++ x ∷ []) ≡ suc (length done) = length_more done x in
    let shifted : length done + suc k ≡ length (done ++ x ∷ []) + k = omega arith in
    let low : is_root (get_or rs k blank_row).parent ≡ false → (get_or rs k blank_row).parent.0 < length (done ++ x ∷ []) + k =
    λ inner. let b : (get_or rs k blank_row).parent.0 < length done + suc k = before inner in omega arith in
    ap (λ n. get_or (module_files_from (done ++ x ∷ []) rs) n 0) shifted ∙ at_row (done ++ x ∷ []) rs k (omega arith) low

-- what stands at a node
at_node : (s : Rows) (c : NodeId) → IsSound s → c.0 < length s.nodes → first_module_file s c ≡ added_group (module_files_from [] s.nodes) (row_at s c)
at_node s c sound lt =
    let from_zero : c.0 ≡ 0 + c.0 = omega arith in
    let low : is_root (row_at s c).parent ≡ false → (row_at s c).parent.0 < 0 + c.0 =
    λ inner. let before : (row_at s c).parent.0 < c.0 = parent_before s c sound lt inner in omega arith in
    ap (λ n. get_or (module_files_from [] s.nodes) n 0) from_zero ∙ at_row [] s.nodes c.0 lt low

-- the module at the top of the way to a node is that of the way to its parent
pub one_up : (s : Rows) (c : NodeId) → IsSound s → c.0 < length s.nodes → is_root (row_at s c).parent ≡ false
    → first_module_file s c ≡ first_module_file s (row_at s c).parent
one_up s c sound lt inner = at_node s c sound lt ∙ ap (λ b. if b then (row_at s c).label.module_file else first_module_file s (row_at s c).parent) inner

-- and that of the node at the top
pub at_top : (s : Rows) (c : NodeId) → IsSound s → c.0 < length s.nodes → is_root (row_at s c).parent ≡ true
    → first_module_file s c ≡ (row_at s c).label.module_file
at_top s c sound lt top = at_node s c sound lt ∙ ap (λ b. if b then (row_at s c).label.module_file else first_module_file s (row_at s c).parent) top
