-- The tree diagram of a module with a drawing: how much of it is shown, and in what form.
use Rattle.std.specs.Prelude.{ℕ, ◌+◌, List, [], ◌∷◌, ◌++◌, Bool, false, Option, None, map, max, if◌then◌else◌, codes}
use Rattle.std.specs.List.{flat_map}
use Rattle.yv_nodes.specs.declared.node.NodeId.{NodeId}
use Rattle.yv_nodes.specs.Tree.{Forest, Tree, no_trees, node, tree}
use Rattle.yv_nodes.specs.Rows.{Rows, Note, forest, row_at, trees_from}
use Rattle.yv_tree.specs.Columns.{Sheet, is_choice}
use Rattle.yv_tree.specs.DrawnNodes.{drawn_nodes}
use Rattle.yv_tree.specs.Diagram.{is_shown, tops}
use Rattle.yv_tree.specs.Part.{augment_part, part}
use Rattle.yv_tree.specs.declared.sections.Part.TheVariants.{Data, Rpcs, Notifications}
use Rattle.yv_tree_drawing.specs.Trees.{DrawingAsked}

-- the sheet of the diagram of the module of this number
abbrev pub sheet_of : Rows → (own : ℕ) → DrawingAsked → Sheet
sheet_of s own d = record { modules = s.modules; own = own; columns = d.columns }

-- a title at two blanks, and nodes at four; nothing without nodes
abbrev pub drawn_section : Sheet → (in_choice : Bool) → (depth : Option ℕ) → (title : List ℕ)
    → Forest → List (List ℕ)
drawn_section sheet in_choice depth title no_trees = []
drawn_section sheet in_choice depth title (tree t ts) =
    (codes "  " ++ title ++ codes ":")
    ∷ drawn_nodes sheet in_choice depth (codes "    ") (tree t ts)

-- the section of an augment, where it is shown
abbrev pub drawn_augment : Rows → (own : ℕ) → DrawingAsked → Note → List (List ℕ)
drawn_augment s own d a =
    if is_shown s own a
    then drawn_section (sheet_of s own d) (is_choice (row_at s a.target).label.defined.kind) d.depth
    (codes "augment " ++ a.argument) (augment_part s d.below a)
    else []

-- sections of augments, with an empty line before each, and in columns only before the first
abbrev pub spaced_sections : (columns : Bool) → List (List (List ℕ)) → List (List ℕ)
spaced_sections columns [] = []
spaced_sections columns ([] ∷ sections) = spaced_sections columns sections
spaced_sections columns ((title ∷ lines) ∷ sections) =
    [] ∷ title ∷ lines
    ++ (if columns then flat_map (λ section. section) sections else spaced_sections columns sections)

-- the nodes at the top of a part of the diagram
abbrev pub drawn_tops : Rows → (own : ℕ) → DrawingAsked → List NodeId → Forest
drawn_tops s own d cs = part None d.below (forest s cs)

-- the section of nodes at the top, after an empty line
abbrev pub tops_section : Rows → (own : ℕ) → DrawingAsked → (title : List ℕ) → List NodeId
    → List (List ℕ)
tops_section s own d title cs =
    spaced_sections d.columns
    (drawn_section (sheet_of s own d) false d.depth title (drawn_tops s own d cs) ∷ [])

-- the lines of the diagram of a module of this name: the header, the data nodes, and the sections
abbrev pub drawn_lines : Rows → (name : List ℕ) → (own : ℕ) → DrawingAsked → List (List ℕ)
drawn_lines s name own d =
    (codes "module: " ++ name)
    ∷ drawn_nodes (sheet_of s own d) false d.depth (codes "  ")
    (drawn_tops s own d (tops s own Data))
    ++ spaced_sections d.columns (map (drawn_augment s own d) s.augments)
    ++ tops_section s own d (codes "rpcs") (tops s own Rpcs)
    ++ tops_section s own d (codes "notifications") (tops s own Notifications)

-- how many levels there are
abbrev mutual
  pub tree_levels : Tree → ℕ
  tree_levels (node l kids) = forest_levels kids + 1

  pub forest_levels : Forest → ℕ
  forest_levels no_trees = 0
  forest_levels (tree t ts) = max (tree_levels t) (forest_levels ts)

-- the most levels of these trees
abbrev pub most_levels : List Tree → ℕ
most_levels [] = 0
most_levels (t ∷ ts) = max (tree_levels t) (most_levels ts)

-- how many levels a schema has: the most that a node has with those below it
abbrev pub levels : Rows → ℕ
levels s = most_levels (trees_from 0 s.nodes)
