-- The part of a schema below a node: the nodes on the way to it, the node, and all below it.
use Rattle.std.specs.Prelude.{ℕ, List, [], ◌∷◌, ◌++◌, Bool, true, false, ◌&&◌, ◌==◌, not, Option, Some, None, if◌then◌else◌}
use Rattle.std.specs.List.{slice_index_or}
use Rattle.std.specs.Str.{bytes_eq}
use Rattle.yv_nodes.specs.declared.node.NodeId.{NodeId}
use Rattle.yv_nodes.specs.Tree.{Label, node, Forest, no_trees, tree}
use Rattle.yv_nodes.specs.Rows.{Row, Rows, Note, forest, is_root, row_at}
use Rattle.yv_tree.specs.Lines.{has_line}
use Rattle.yv_tree_drawing.specs.Steps.{Step}

-- the node above is of the module of this number: there is none above those at the top
abbrev pub is_below : (above : Option ℕ) → (module_file : ℕ) → Bool
is_below None module_file = false
is_below (Some above) module_file = above == module_file

-- a step gives the module of a node exactly where the node above is of another one
abbrev pub gives_module : (above : Option ℕ) → Option (List ℕ) → Label → Bool
gives_module above None l = is_below above l.module_file
gives_module above (Some m) l = not (is_below above l.module_file) && bytes_eq l.module_name m

-- a step leads to a node
abbrev pub is_step : (above : Option ℕ) → Step → Label → Bool
is_step above x l = bytes_eq l.defined.name x.name && gives_module above x.module l

-- the trees that are left of these when only the way of the steps is shown, and all below its end
abbrev pub part : (above : Option ℕ) → List Step → Forest → Forest
part above [] ts = ts
part above (x ∷ xs) no_trees = no_trees
part above (x ∷ xs) (tree (node l kids) ts) =
    if is_step above x l then tree (node l (part (Some l.module_file) xs kids)) no_trees
    else part above (x ∷ xs) ts

-- the steps lead to a node; one without a line is not found
abbrev pub leads : (above : Option ℕ) → List Step → Forest → Bool
leads above [] ts = true
leads above (x ∷ xs) no_trees = false
leads above (x ∷ xs) (tree (node l kids) ts) =
    if is_step above x l then has_line (node l kids) && leads (Some l.module_file) xs kids
    else leads above (x ∷ xs) ts

-- the steps that are left behind the nodes of a way: none are left where the steps end before, and
-- there is nothing where they lead elsewhere
abbrev pub steps_behind : (above : Option ℕ) → List Step → (way : List Label) → Option (List Step)
steps_behind above [] way = Some []
steps_behind above (x ∷ xs) [] = Some (x ∷ xs)
steps_behind above (x ∷ xs) (l ∷ ls) =
    if is_step above x l then steps_behind (Some l.module_file) xs ls else None

-- the nodes on the way from the top to each node, itself the last: parents come before their
-- children
abbrev pub ways_from : (done : List (List Label)) → List Row → List (List Label)
ways_from done [] = done
ways_from done (r ∷ rs) =
    ways_from (done
    ++ ((if is_root r.parent then [] else slice_index_or done r.parent.0 []) ++ r.label ∷ [])
    ∷ []) rs

-- the nodes on the way from the top to a node, itself the last
abbrev pub way_to : Rows → NodeId → List Label
way_to s c = slice_index_or (ways_from [] s.nodes) c.0 []

-- the part of these children of a node that is shown, where these steps are left behind it
abbrev pub part_if : Rows → (above : NodeId) → List NodeId → Option (List Step) → Forest
part_if s above cs None = no_trees
part_if s above cs (Some steps) = part (Some (row_at s above).label.module_file) steps (forest s cs)

-- the part of what an augment adds that is shown
abbrev pub augment_part : Rows → List Step → Note → Forest
augment_part s steps a = part_if s a.target a.nodes (steps_behind None steps (way_to s a.target))
