-- The way to a node, one node further down.
use Rattle.std.proofs.Common.{◌≡◌, ℕ, zero, suc, ◌+◌, ◌<◌, List, [], ◌∷◌, ◌++◌, length, get_or, refl, sym, ap, ◌∙◌, arith, Bool, true, false, Option, Some, None, if◌then◌else◌}
use Rattle.yv_nodes.specs.declared.node.NodeId.{NodeId}
use Rattle.yv_nodes.specs.Tree.{Label}
use Rattle.yv_nodes.specs.Rows.{Row, Rows, blank_row, is_root, row_at}
use Rattle.yv_schema_tables.specs.Sound.{IsSound}
use Rattle.yv_tree.proofs.Tops.{in_front, length_more, parent_before, right_behind}
use Rattle.yv_tree.specs.Part.{is_step, steps_behind, way_to, ways_from}
use Rattle.yv_tree_drawing.specs.Steps.{Step}

-- what a row adds
abbrev pub added_group : List (List Label) → Row → List Label
added_group done r = (if is_root r.parent then [] else get_or done r.parent.0 []) ++ r.label ∷ []

-- what stands there stays
kept : (done : List (List Label)) (rs : List Row) (k : ℕ) → k < length done → get_or (ways_from done rs) k [] ≡ get_or done k []
kept done [] k lt = refl
kept done (r ∷ rs) k lt =
    let more : length (done ++ added_group done r ∷ []) ≡ suc (length done) = length_more done (added_group done r) in
    kept (done ++ added_group done r ∷ []) rs k (omega arith) ∙ in_front done (added_group done r ∷ []) k [] lt

same_added : (b : Bool) (l : Label) (u v : List Label) → (b ≡ false → u ≡ v) → (if b then [] else u) ++ l ∷ [] ≡ (if b then [] else v) ++ l ∷ []
same_added true l u v h = refl
same_added false l u v h = ap (λ (w : List Label). w ++ l ∷ []) (h refl)

-- of a row here, where its parent stands before it
at_row : (done : List (List Label)) (rs : List Row) (k : ℕ) → k < length rs → (is_root (get_or rs k blank_row).parent ≡ false → (get_or rs k blank_row).parent.0 < length done + k)
    → get_or (ways_from done rs) (length done + k) [] ≡ added_group (ways_from done rs) (get_or rs k blank_row)
at_row done [] k lt before = absurd (omega arith)
at_row done (r ∷ rs) zero lt before =
    let x : List Label = added_group done r in
    let more : length (done ++ x ∷ []) ≡ suc (length done) = length_more done x in
    let here : length done + zero ≡ length done = omega arith in
    let own : get_or (ways_from (done ++ x ∷ []) rs) (length done) [] ≡ x =
    kept (done ++ x ∷ []) rs (length done) (omega arith) ∙ right_behind done x [] in
    let up : is_root r.parent ≡ false → get_or done r.parent.0 [] ≡ get_or (ways_from (done ++ x ∷ []) rs) r.parent.0 [] =
    λ inner. let low : r.parent.0 < length done + zero = before inner in
    sym (kept (done ++ x ∷ []) rs r.parent.0 (omega arith) ∙ in_front done (x ∷ []) r.parent.0 [] (omega arith)) in
    ap (λ n. get_or (ways_from (done ++ x ∷ []) rs) n []) here ∙ own ∙ same_added (is_root r.parent) r.label _ _ up
at_row done (r ∷ rs) (suc k) lt before =
    let x : List Label = added_group done r in
    let more : length (done ++ x ∷ []) ≡ suc (length done) = length_more done x in
    let shifted : length done + suc k ≡ length (done ++ x ∷ []) + k = omega arith in
    let low : is_root (get_or rs k blank_row).parent ≡ false → (get_or rs k blank_row).parent.0 < length (done ++ x ∷ []) + k =
    λ inner. let b : (get_or rs k blank_row).parent.0 < length done + suc k = before inner in omega arith in
    ap (λ n. get_or (ways_from (done ++ x ∷ []) rs) n []) shifted ∙ at_row (done ++ x ∷ []) rs k (omega arith) low

-- what stands at a node
at_node : (s : Rows) (c : NodeId) → IsSound s → c.0 < length s.nodes → way_to s c ≡ added_group (ways_from [] s.nodes) (row_at s c)
at_node s c sound lt =
    let from_zero : c.0 ≡ 0 + c.0 = omega arith in
    let low : is_root (row_at s c).parent ≡ false → (row_at s c).parent.0 < 0 + c.0 =
    λ inner. let before : (row_at s c).parent.0 < c.0 = parent_before s c sound lt inner in omega arith in
    ap (λ n. get_or (ways_from [] s.nodes) n []) from_zero ∙ at_row [] s.nodes c.0 lt low

-- the way to a node is that to its parent, and the node itself
pub one_down : (s : Rows) (c : NodeId) → IsSound s → c.0 < length s.nodes → is_root (row_at s c).parent ≡ false
    → way_to s c ≡ way_to s (row_at s c).parent ++ (row_at s c).label ∷ []
one_down s c sound lt inner = at_node s c sound lt ∙ ap (λ b. (if b then [] else way_to s (row_at s c).parent) ++ (row_at s c).label ∷ []) inner

-- and that of a node at the top is the node
pub just_one : (s : Rows) (c : NodeId) → IsSound s → c.0 < length s.nodes → is_root (row_at s c).parent ≡ true → way_to s c ≡ (row_at s c).label ∷ []
just_one s c sound lt top = at_node s c sound lt ∙ ap (λ b. (if b then [] else way_to s (row_at s c).parent) ++ (row_at s c).label ∷ []) top

-- the module of the last node of a way
abbrev last_above : Option ℕ → List Label → Option ℕ
last_above above [] = above
last_above above (l ∷ ls) = last_above (Some l.module_file) ls

last_of : (above : Option ℕ) (ls : List Label) (l : Label) → last_above above (ls ++ l ∷ []) ≡ Some l.module_file
last_of above [] l = refl
last_of above (m ∷ ms) l = last_of (Some m.module_file) ms l

-- the steps that are left one node further down
abbrev pub one_more : (above : Option ℕ) → Label → Option (List Step) → Option (List Step)
one_more above l None = None
one_more above l (Some steps) = steps_behind above steps (l ∷ [])

more_if : (b : Bool) (above : Option ℕ) (l : Label) (longer shorter : Option (List Step)) → longer ≡ one_more above l shorter
    → (if b then longer else None) ≡ one_more above l (if b then shorter else None)
more_if true above l longer shorter same = same
more_if false above l longer shorter same = refl

behind_more : (above : Option ℕ) (steps : List Step) (ls : List Label) (l : Label) → steps_behind above steps (ls ++ l ∷ []) ≡ one_more (last_above above ls) l (steps_behind above steps ls)
behind_more above [] ls l = refl
behind_more above (x ∷ xs) [] l = refl
behind_more above (x ∷ xs) (m ∷ ms) l =
    more_if (is_step above x m) (last_above (Some m.module_file) ms) l (steps_behind (Some m.module_file) xs (ms ++ l ∷ [])) (steps_behind (Some m.module_file) xs ms)
    (behind_more (Some m.module_file) xs ms l)

-- the last node of the way to a node is that node
last_node : (s : Rows) (c : NodeId) → IsSound s → c.0 < length s.nodes → last_above None (way_to s c) ≡ Some (row_at s c).label.module_file
last_node s c sound lt =
    ap (last_above None) (at_node s c sound lt) ∙ last_of None (if is_root (row_at s c).parent then [] else get_or (ways_from [] s.nodes) (row_at s c).parent.0 []) (row_at s c).label

-- the steps that are left behind a node, by those that are left behind its parent
pub behind_parent : (s : Rows) (steps : List Step) (c p : NodeId) → IsSound s → c.0 < length s.nodes → p.0 < length s.nodes → (row_at s c).parent ≡ p → is_root p ≡ false
    → steps_behind None steps (way_to s c) ≡ one_more (Some (row_at s p).label.module_file) (row_at s c).label (steps_behind None steps (way_to s p))
behind_parent s steps c p sound lt within up inner =
    let l = (row_at s c).label in
    ap (steps_behind None steps) (one_down s c sound lt (ap is_root up ∙ inner) ∙ ap (λ (q : NodeId). way_to s q ++ l ∷ []) up)
    ∙ behind_more None steps (way_to s p) l
    ∙ ap (λ (above : Option ℕ). one_more above l (steps_behind None steps (way_to s p))) (last_node s p sound within)

-- the parent is a node
pub above_within : (s : Rows) (c p : NodeId) → IsSound s → c.0 < length s.nodes → p ≡ (row_at s c).parent → is_root p ≡ false → p.0 < length s.nodes
above_within s c p sound lt up inner =
    let number : p.0 ≡ (row_at s c).parent.0 = ap (λ (q : NodeId). q.0) up in
    let before : (row_at s c).parent.0 < c.0 = parent_before s c sound lt (sym (ap is_root up) ∙ inner) in
    omega (arith, number, before, lt)

-- and behind one at the top
pub behind_top : (s : Rows) (steps : List Step) (c : NodeId) → IsSound s → c.0 < length s.nodes → is_root (row_at s c).parent ≡ true
    → steps_behind None steps (way_to s c) ≡ steps_behind None steps ((row_at s c).label ∷ [])
behind_top s steps c sound lt top = ap (steps_behind None steps) (just_one s c sound lt top)

none_more : (above : Option ℕ) (steps : List Step) → steps_behind above steps [] ≡ Some steps
none_more above [] = refl
none_more above (x ∷ xs) = refl

-- a step that was taken
pub step_taken : (above : Option ℕ) (way : List Step) (x : Step) (xs : List Step) (l : Label) → way ≡ x ∷ xs → is_step above x l ≡ true → Some xs ≡ steps_behind above way (l ∷ [])
step_taken above way x xs l first taken =
    sym (ap (λ (w : List Step). steps_behind above w (l ∷ [])) first ∙ ap (λ (b : Bool). if b then steps_behind (Some l.module_file) xs [] else None) taken ∙ none_more (Some l.module_file) xs)
