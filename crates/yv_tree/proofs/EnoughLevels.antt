-- Drawings with as many levels as there are.
use Rattle.std.proofs.Common.{◌≡◌, ℕ, zero, suc, ◌+◌, ◌-◌, ◌≤◌, ◌==◌, max, List, [], ◌∷◌, ◌++◌, Bool, true, false, Option, Some, None, refl, ap, ◌∙◌, arith, codes, if◌then◌else◌, get_or, map}
use Rattle.std.proofs.lemmas.Bool.Decides.{nat_tests}
use Rattle.yv_nodes.specs.declared.node.NodeId.{NodeId}
use Rattle.yv_nodes.specs.Tree.{Forest, Tree, no_trees, node, tree}
use Rattle.yv_nodes.specs.Rows.{Note, Rows, blank, forest, pick, row_at, trees_from}
use Rattle.yv_tree.specs.Columns.{Sheet, case_line, is_choice, label_width, lacks_case, sheet_line, width}
use Rattle.yv_tree.specs.Lines.{any_line, bars, has_line}
use Rattle.yv_tree.specs.DrawnNodes.{drawn_nodes, drawn_tree, drawn_trees}
use Rattle.yv_tree.specs.Diagram.{is_shown, tops}
use Rattle.yv_tree.specs.DrawnDiagram.{drawn_augment, drawn_lines, drawn_section, forest_levels, levels, most_levels, sheet_of, spaced_sections, tops_section, tree_levels}
use Rattle.yv_tree.specs.Part.{augment_part, is_step, part, part_if, steps_behind, way_to}
use Rattle.yv_tree.specs.declared.sections.Part.TheVariants.{Data, Rpcs, Notifications}
use Rattle.yv_tree.proofs.WholeDrawings.{both}
use Rattle.yv_tree_drawing.specs.Steps.{Step}
use Rattle.yv_tree_drawing.specs.Trees.{DrawingAsked}

either : (b : Bool) (x y u v : List (List ℕ)) → x ≡ y → u ≡ v → (if b then x else u) ≡ (if b then y else v)
either b x y u v first rest = rw (first, rest) refl

-- trees that end within what is left
whole_of : (sheet : Sheet) (in_choice : Bool) (most : ℕ) (margin : List ℕ) (ts : Forest)
    → ((less : ℕ) → most ≡ less + 1 → drawn_trees sheet in_choice (width sheet ts) (Some less) margin ts ≡ drawn_trees sheet in_choice (width sheet ts) None margin ts)
    → forest_levels ts ≤ most → drawn_nodes sheet in_choice (Some most) margin ts ≡ drawn_nodes sheet in_choice None margin ts
whole_of sheet in_choice zero margin no_trees later le = refl
whole_of sheet in_choice zero margin (tree (node l kids) ts) later le = absurd (omega (arith, le))
whole_of sheet in_choice (suc less) margin ts later le =
    let some : (suc less == 0) ≡ false = grind (arith, nat_tests) in
    let fewer : suc less - 1 ≡ less = omega arith in
    rw (some, fewer) (later less (omega arith))

mutual
  enough_for_tree : (sheet : Sheet) (in_choice : Bool) (group_width less : ℕ) (margin : List ℕ) (follows : Bool) (t : Tree) → tree_levels t ≤ less + 1
      → drawn_tree sheet in_choice group_width (Some less) margin follows t ≡ drawn_tree sheet in_choice group_width None margin follows t
  enough_for_tree sheet in_choice group_width less margin follows (node l kids) le =
      either (lacks_case sheet in_choice l) _ _ _ _
      (ap (λ (ls : List (List ℕ)). (margin ++ case_line sheet l) ∷ (margin ++ bars follows ++ sheet_line sheet (label_width sheet l) l) ∷ ls)
      (whole_of sheet (is_choice l.defined.kind) less (margin ++ bars follows ++ bars false) kids
      (λ fewer is. enough_for_trees sheet (is_choice l.defined.kind) (width sheet kids) fewer (margin ++ bars follows ++ bars false) kids (omega (arith, le, is))) (omega (arith, le))))
      (ap (λ (ls : List (List ℕ)). (margin ++ sheet_line sheet group_width l) ∷ ls)
      (whole_of sheet (is_choice l.defined.kind) less (margin ++ bars follows) kids
      (λ fewer is. enough_for_trees sheet (is_choice l.defined.kind) (width sheet kids) fewer (margin ++ bars follows) kids (omega (arith, le, is))) (omega (arith, le))))

  enough_for_trees : (sheet : Sheet) (in_choice : Bool) (group_width less : ℕ) (margin : List ℕ) (ts : Forest) → forest_levels ts ≤ less + 1
      → drawn_trees sheet in_choice group_width (Some less) margin ts ≡ drawn_trees sheet in_choice group_width None margin ts
  enough_for_trees sheet in_choice group_width less margin no_trees le = refl
  enough_for_trees sheet in_choice group_width less margin (tree t ts) le =
      both (has_line t) (drawn_tree sheet in_choice group_width (Some less) margin (any_line ts) t) (drawn_tree sheet in_choice group_width None margin (any_line ts) t)
      (drawn_trees sheet in_choice group_width (Some less) margin ts) (drawn_trees sheet in_choice group_width None margin ts)
      (enough_for_tree sheet in_choice group_width less margin (any_line ts) t (omega (arith, le))) (enough_for_trees sheet in_choice group_width less margin ts (omega (arith, le)))

levels_at : (ts : List Tree) (i most : ℕ) → 1 ≤ most → most_levels ts ≤ most → tree_levels (get_or ts i blank) ≤ most
levels_at [] i most one le = omega (arith, one)
levels_at (t ∷ ts) zero most one le = omega (arith, le)
levels_at (t ∷ ts) (suc i) most one le = levels_at ts i most one (omega (arith, le))

levels_of : (first : ℕ) (ts : List Tree) (cs : List NodeId) (most : ℕ) → 1 ≤ most → most_levels ts ≤ most → forest_levels (pick first ts cs) ≤ most
levels_of first ts [] most one le = omega arith
levels_of first ts (c ∷ cs) most one le =
    let here : tree_levels (get_or ts (c.0 - first) blank) ≤ most = levels_at ts (c.0 - first) most one le in
    let others : forest_levels (pick first ts cs) ≤ most = levels_of first ts cs most one le in
    omega (arith, here, others)

if_levels : (b : Bool) (ts us : Forest) (most : ℕ) → forest_levels ts ≤ most → forest_levels us ≤ most → forest_levels (if b then ts else us) ≤ most
if_levels true ts us most first rest = first
if_levels false ts us most first rest = rest

-- a part has no more levels than the whole
part_levels : (above : Option ℕ) (steps : List Step) (ts : Forest) → forest_levels (part above steps ts) ≤ forest_levels ts
part_levels above [] ts = omega arith
part_levels above (x ∷ xs) no_trees = omega arith
part_levels above (x ∷ xs) (tree (node l kids) ts) =
    let inner : forest_levels (part (Some l.module_file) xs kids) ≤ forest_levels kids = part_levels (Some l.module_file) xs kids in
    let later : forest_levels (part above (x ∷ xs) ts) ≤ forest_levels ts = part_levels above (x ∷ xs) ts in
    if_levels (is_step above x l) (tree (node l (part (Some l.module_file) xs kids)) no_trees) (part above (x ∷ xs) ts) (max (forest_levels kids + 1) (forest_levels ts))
    (omega (arith, inner)) (omega (arith, later))

part_of : (s : Rows) (above : Option ℕ) (steps : List Step) (cs : List NodeId) (most : ℕ) → 1 ≤ most → levels s ≤ most → forest_levels (part above steps (forest s cs)) ≤ most
part_of s above steps cs most one le =
    omega (arith, part_levels above steps (forest s cs), levels_of 0 (trees_from 0 s.nodes) cs most one le)

part_if_of : (s : Rows) (above : NodeId) (cs : List NodeId) (o : Option (List Step)) (most : ℕ) → 1 ≤ most → levels s ≤ most → forest_levels (part_if s above cs o) ≤ most
part_if_of s above cs None most one le = omega arith
part_if_of s above cs (Some steps) most one le = part_of s (Some (row_at s above).label.module_file) steps cs most one le

enough_for : (sheet : Sheet) (in_choice : Bool) (most : ℕ) (margin : List ℕ) (ts : Forest) → forest_levels ts ≤ most
    → drawn_nodes sheet in_choice (Some most) margin ts ≡ drawn_nodes sheet in_choice None margin ts
enough_for sheet in_choice most margin ts few =
    whole_of sheet in_choice most margin ts (λ less is. enough_for_trees sheet in_choice (width sheet ts) less margin ts (omega (arith, few, is))) few

enough_for_section : (sheet : Sheet) (in_choice : Bool) (most : ℕ) (title : List ℕ) (ts : Forest) → forest_levels ts ≤ most
    → drawn_section sheet in_choice (Some most) title ts ≡ drawn_section sheet in_choice None title ts
enough_for_section sheet in_choice most title no_trees few = refl
enough_for_section sheet in_choice most title (tree t ts) few =
    ap (λ (ls : List (List ℕ)). (codes "  " ++ title ++ codes ":") ∷ ls) (enough_for sheet in_choice most (codes "    ") (tree t ts) few)

-- a drawing with this limit or with none
abbrev drawing : Option ℕ → List Step → Bool → DrawingAsked
drawing depth below columns = record { depth = depth; below = below; columns = columns }

enough_for_augments : (s : Rows) (own most : ℕ) (below : List Step) (columns : Bool) (notes : List Note) → 1 ≤ most → levels s ≤ most
    → map (drawn_augment s own (drawing (Some most) below columns)) notes ≡ map (drawn_augment s own (drawing None below columns)) notes
enough_for_augments s own most below columns [] one le = refl
enough_for_augments s own most below columns (a ∷ notes) one le =
    let sheet = sheet_of s own (drawing None below columns) in
    let in_choice = is_choice (row_at s a.target).label.defined.kind in
    let title = codes "augment " ++ a.argument in
    let ts = augment_part s below a in
    let here : drawn_augment s own (drawing (Some most) below columns) a ≡ drawn_augment s own (drawing None below columns) a =
    either (is_shown s own a) (drawn_section sheet in_choice (Some most) title ts) (drawn_section sheet in_choice None title ts) [] []
    (enough_for_section sheet in_choice most title ts (part_if_of s a.target a.nodes (steps_behind None below (way_to s a.target)) most one le)) refl in
    ap (λ (ls : List (List ℕ)). ls ∷ map (drawn_augment s own (drawing (Some most) below columns)) notes) here
    ∙ ap (λ (lss : List (List (List ℕ))). drawn_augment s own (drawing None below columns) a ∷ lss) (enough_for_augments s own most below columns notes one le)

enough_for_tops : (s : Rows) (own most : ℕ) (below : List Step) (columns : Bool) (title : List ℕ) (cs : List NodeId) → 1 ≤ most → levels s ≤ most
    → tops_section s own (drawing (Some most) below columns) title cs ≡ tops_section s own (drawing None below columns) title cs
enough_for_tops s own most below columns title cs one le =
    ap (λ (ls : List (List ℕ)). spaced_sections columns (ls ∷ []))
    (enough_for_section (sheet_of s own (drawing None below columns)) false most title (part None below (forest s cs)) (part_of s None below cs most one le))

-- a drawing with as many levels as there are is one without a limit
pub enough_lines : (s : Rows) (name : List ℕ) (own most : ℕ) (below : List Step) (columns : Bool) → 1 ≤ most → levels s ≤ most
    → drawn_lines s name own (drawing (Some most) below columns) ≡ drawn_lines s name own (drawing None below columns)
enough_lines s name own most below columns one le =
    let some = drawing (Some most) below columns in
    let all = drawing None below columns in
    let sheet = sheet_of s own all in
    let ts = part None below (forest s (tops s own Data)) in
    let F = λ (a b c d : List (List ℕ)). (codes "module: " ++ name) ∷ a ++ b ++ c ++ d in
    ap (λ (a : List (List ℕ)). F a (spaced_sections columns (map (drawn_augment s own some) s.augments)) (tops_section s own some (codes "rpcs") (tops s own Rpcs))
    (tops_section s own some (codes "notifications") (tops s own Notifications)))
    (enough_for sheet false most (codes "  ") ts (part_of s None below (tops s own Data) most one le))
    ∙ ap (λ (b : List (List (List ℕ))). F (drawn_nodes sheet false None (codes "  ") ts) (spaced_sections columns b) (tops_section s own some (codes "rpcs") (tops s own Rpcs))
    (tops_section s own some (codes "notifications") (tops s own Notifications)))
    (enough_for_augments s own most below columns s.augments one le)
    ∙ ap (λ (c : List (List ℕ)). F (drawn_nodes sheet false None (codes "  ") ts) (spaced_sections columns (map (drawn_augment s own all) s.augments)) c
    (tops_section s own some (codes "notifications") (tops s own Notifications)))
    (enough_for_tops s own most below columns (codes "rpcs") (tops s own Rpcs) one le)
    ∙ ap (λ (d : List (List ℕ)). F (drawn_nodes sheet false None (codes "  ") ts) (spaced_sections columns (map (drawn_augment s own all) s.augments))
    (tops_section s own all (codes "rpcs") (tops s own Rpcs)) d)
    (enough_for_tops s own most below columns (codes "notifications") (tops s own Notifications) one le)
