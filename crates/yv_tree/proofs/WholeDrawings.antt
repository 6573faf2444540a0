-- Drawings that show all.
use Rattle.std.proofs.Common.{◌≡◌, ℕ, List, [], ◌∷◌, ◌++◌, Bool, true, false, Option, Some, None, Ok, refl, ap, ◌∙◌, append-nil, codes, if◌then◌else◌, map}
use Rattle.std.specs.List.{flat_map}
use Rattle.std.specs.Option.{option_map}
use Rattle.yv_nodes.specs.declared.node.NodeId.{NodeId}
use Rattle.yv_nodes.specs.Tree.{Forest, Tree, no_trees, node, tree}
use Rattle.yv_nodes.specs.Rows.{Module, Note, Rows, forest, row_at}
use Rattle.yv_tree.specs.Columns.{Sheet, is_choice, width}
use Rattle.yv_tree.specs.Lines.{any_line, bars, forest_lines, has_line, line, tree_lines}
use Rattle.yv_tree.specs.DrawnNodes.{drawn_tree, drawn_trees}
use Rattle.yv_tree.specs.Diagram.{augment_section, diagram_lines, is_shown, section, text_of, tops}
use Rattle.yv_tree.specs.DrawnDiagram.{drawn_augment, drawn_lines, drawn_section, spaced_sections, tops_section}
use Rattle.yv_tree.specs.DrawnModules.{diagrams_if, with_first}
use Rattle.yv_tree.specs.InnerSections.{apart}
use Rattle.yv_tree.specs.LawWords.{plain_drawing, text_or_missing}
use Rattle.yv_tree.specs.declared.sections.Part.TheVariants.{Data, Rpcs, Notifications}

pub both : (b : Bool) (x y u v : List (List ℕ)) → x ≡ y → u ≡ v → (if b then x else []) ++ u ≡ (if b then y else []) ++ v
both b x y u v first rest = rw (first, rest) refl

-- a sheet without columns
abbrev plain_sheet : List Module → ℕ → Sheet
plain_sheet modules own = record { modules = modules; own = own; columns = false }

-- without a limit and columns the lines are those of all nodes
mutual
  all_of_tree : (modules : List Module) (own : ℕ) (in_choice : Bool) (group_width : ℕ) (margin : List ℕ) (follows : Bool) (t : Tree)
      → drawn_tree (plain_sheet modules own) in_choice group_width None margin follows t ≡ tree_lines modules own margin follows t
  all_of_tree modules own in_choice group_width margin follows (node l kids) =
      ap (λ (ls : List (List ℕ)). (margin ++ line modules own l) ∷ ls)
      (all_of_trees modules own (is_choice l.defined.kind) (width (plain_sheet modules own) kids) (margin ++ bars follows) kids)

  all_of_trees : (modules : List Module) (own : ℕ) (in_choice : Bool) (group_width : ℕ) (margin : List ℕ) (ts : Forest)
      → drawn_trees (plain_sheet modules own) in_choice group_width None margin ts ≡ forest_lines modules own margin ts
  all_of_trees modules own in_choice group_width margin no_trees = refl
  all_of_trees modules own in_choice group_width margin (tree t ts) =
      both (has_line t) (drawn_tree (plain_sheet modules own) in_choice group_width None margin (any_line ts) t) (tree_lines modules own margin (any_line ts) t)
      (drawn_trees (plain_sheet modules own) in_choice group_width None margin ts) (forest_lines modules own margin ts)
      (all_of_tree modules own in_choice group_width margin (any_line ts) t) (all_of_trees modules own in_choice group_width margin ts)

-- where each section stands after an empty line
spaced_one : (x : List (List ℕ)) (xs : List (List (List ℕ))) → spaced_sections false (x ∷ xs) ≡ apart true x ++ spaced_sections false xs
spaced_one [] xs = refl
spaced_one (l ∷ ls) xs = refl

all_of_section : (s : Rows) (own : ℕ) (in_choice : Bool) (title : List ℕ) (cs : List NodeId)
    → apart true (drawn_section (plain_sheet s.modules own) in_choice None title (forest s cs)) ≡ section s own title cs
all_of_section s own in_choice title [] = refl
all_of_section s own in_choice title (c ∷ cs) =
    ap (λ (ls : List (List ℕ)). [] ∷ (codes "  " ++ title ++ codes ":") ∷ ls)
    (all_of_trees s.modules own in_choice (width (plain_sheet s.modules own) (forest s (c ∷ cs))) (codes "    ") (forest s (c ∷ cs)))

all_if_shown : (b : Bool) (x y : List (List ℕ)) → apart true x ≡ y → apart true (if b then x else []) ≡ (if b then y else [])
all_if_shown true x y same = same
all_if_shown false x y same = refl

all_of_augments : (s : Rows) (own : ℕ) (notes : List Note) → spaced_sections false (map (drawn_augment s own plain_drawing) notes) ≡ flat_map (augment_section s own) notes
all_of_augments s own [] = refl
all_of_augments s own (a ∷ notes) =
    let lines = drawn_section (plain_sheet s.modules own) (is_choice (row_at s a.target).label.defined.kind) None (codes "augment " ++ a.argument) (forest s a.nodes) in
    let here : apart true (drawn_augment s own plain_drawing a) ≡ augment_section s own a =
    all_if_shown (is_shown s own a) lines (section s own (codes "augment " ++ a.argument) a.nodes)
    (all_of_section s own (is_choice (row_at s a.target).label.defined.kind) (codes "augment " ++ a.argument) a.nodes) in
    spaced_one (drawn_augment s own plain_drawing a) (map (drawn_augment s own plain_drawing) notes)
    ∙ ap (λ (ls : List (List ℕ)). ls ++ spaced_sections false (map (drawn_augment s own plain_drawing) notes)) here
    ∙ ap (λ (ls : List (List ℕ)). augment_section s own a ++ ls) (all_of_augments s own notes)

all_of_tops : (s : Rows) (own : ℕ) (title : List ℕ) (cs : List NodeId) → tops_section s own plain_drawing title cs ≡ section s own title cs
all_of_tops s own title cs =
    spaced_one (drawn_section (plain_sheet s.modules own) false None title (forest s cs)) []
    ∙ append-nil (apart true (drawn_section (plain_sheet s.modules own) false None title (forest s cs)))
    ∙ all_of_section s own false title cs

-- a drawing without a limit, a way and columns is the diagram
pub plain_lines : (s : Rows) (name : List ℕ) (own : ℕ) → drawn_lines s name own plain_drawing ≡ diagram_lines s name own
plain_lines s name own =
    let data_trees = forest s (tops s own Data) in
    let sheet = plain_sheet s.modules own in
    let nodes : drawn_trees sheet false (width sheet data_trees) None (codes "  ") data_trees ≡ forest_lines s.modules own (codes "  ") data_trees =
    all_of_trees s.modules own false (width sheet data_trees) (codes "  ") data_trees in
    let augments : spaced_sections false (map (drawn_augment s own plain_drawing) s.augments) ≡ flat_map (augment_section s own) s.augments =
    all_of_augments s own s.augments in
    let rpcs : tops_section s own plain_drawing (codes "rpcs") (tops s own Rpcs) ≡ section s own (codes "rpcs") (tops s own Rpcs) =
    all_of_tops s own (codes "rpcs") (tops s own Rpcs) in
    let notifications : tops_section s own plain_drawing (codes "notifications") (tops s own Notifications) ≡ section s own (codes "notifications") (tops s own Notifications) =
    all_of_tops s own (codes "notifications") (tops s own Notifications) in
    let F = λ (a b c d : List (List ℕ)). (codes "module: " ++ name) ∷ a ++ b ++ c ++ d in
    ap (λ (a : List (List ℕ)). F a (spaced_sections false (map (drawn_augment s own plain_drawing) s.augments)) (tops_section s own plain_drawing (codes "rpcs") (tops s own Rpcs))
    (tops_section s own plain_drawing (codes "notifications") (tops s own Notifications))) nodes
    ∙ ap (λ (b : List (List ℕ)). F (forest_lines s.modules own (codes "  ") data_trees) b (tops_section s own plain_drawing (codes "rpcs") (tops s own Rpcs))
    (tops_section s own plain_drawing (codes "notifications") (tops s own Notifications))) augments
    ∙ ap (λ (c : List (List ℕ)). F (forest_lines s.modules own (codes "  ") data_trees) (flat_map (augment_section s own) s.augments) c
    (tops_section s own plain_drawing (codes "notifications") (tops s own Notifications))) rpcs
    ∙ ap (λ (d : List (List ℕ)). F (forest_lines s.modules own (codes "  ") data_trees) (flat_map (augment_section s own) s.augments) (section s own (codes "rpcs") (tops s own Rpcs)) d) notifications

-- the diagrams of one module or of none
pub plain_of : (s : Rows) (o : Option Module)
    → diagrams_if s plain_drawing (with_first o (Ok [])) ≡ text_or_missing (option_map (λ (m : Module). text_of (diagram_lines s m.name m.module_file)) o)
plain_of s None = refl
plain_of s (Some m) =
    ap Ok (append-nil (text_of (drawn_lines s m.name m.module_file plain_drawing)) ∙ ap text_of (plain_lines s m.name m.module_file))
