-- Which leafs the steps below a list name (RFC 7950, sections 6.5, 7.8.2 and 7.8.3).
use Rattle.std.specs.Prelude.{ℕ, ◌==◌, Bool, not, ◌&&◌, List, [], ◌∷◌, Option, Some, None, if◌then◌else◌}
use Rattle.std.specs.Option.{option_and_then, unwrap_or}
use Rattle.std.specs.Str.{bytes_eq}
use Rattle.yv_node_content.specs.Kinds.{is_case, is_choice, is_leaf, is_list}
use Rattle.yv_node_content.specs.Definition.{own_default}
use Rattle.yv_text_statement.specs.TextInFile.{TextInFile}
use Rattle.yv_nodes.specs.Tree.{Label, Tree, node, Forest, no_trees, tree}
use Rattle.yv_node_content.specs.Steps.{Step}
use Rattle.yv_nodes.specs.Children.{is_called, child_named, child_of_text}

-- the module of a step: without a prefix that of the list whose statement has the path
abbrev pub module_file_of : (own : ℕ) → Step → ℕ
module_file_of own s = unwrap_or s.module_file own

-- the tree itself, where its node is a leaf
abbrev pub leaf_in : Tree → Option Tree
leaf_in (node l kids) = if is_leaf l.defined.kind then Some (node l kids) else None

-- the leaf that a step names among these trees
abbrev pub leaf_among : (own : ℕ) → Option Step → Forest → Option Tree
leaf_among own None ts = None
leaf_among own (Some s) ts = option_and_then leaf_in (child_named (module_file_of own s) s.name ts)

-- the leaf directly below a list that a name in its key names
abbrev pub key_leaf : (list : Tree) → Option Step → Option Tree
key_leaf (node l kids) s = leaf_among l.module_file s kids

-- where a path is after some of its steps: at a node, or at the case that is left out around a node
pub data Waypoint : Type 0 where
  at_node : Tree → Waypoint
  at_shorthand_case : Tree → Waypoint

-- a node directly in a choice that isn't a case is in a case of its name that is left out (section
-- 7.9.2)
abbrev pub is_shorthand_case : (above below : Label) → Bool
is_shorthand_case above below = is_choice above.defined.kind && not (is_case below.defined.kind)

-- where a path is that came down from one node to another: it leads to no list, since it goes
-- through none and ends at none
abbrev pub arrive : (above : Label) → (below : Tree) → Option Waypoint
arrive above (node l kids) =
    if is_list l.defined.kind then None
    else Some (if is_shorthand_case above l then at_shorthand_case (node l kids)
    else at_node (node l kids))

-- where a step to this module and this name leads
abbrev pub step_to : (module_file : ℕ) → (name : List ℕ) → Waypoint → Option Waypoint
step_to module_file name (at_node (node l kids)) =
    option_and_then (arrive l) (child_named module_file name kids)
step_to module_file name (at_shorthand_case (node l kids)) =
    if is_called module_file name l then Some (at_node (node l kids)) else None

-- the leaf at which a path has arrived: a case that is left out is none
abbrev pub leaf_at_end : Waypoint → Option Tree
leaf_at_end (at_node t) = leaf_in t
leaf_at_end (at_shorthand_case t) = None

-- where a step leads: one whose prefix refers to no module leads nowhere
abbrev pub follow_step : (own : ℕ) → Option Step → Waypoint → Option Waypoint
follow_step own None w = None
follow_step own (Some s) w = step_to (module_file_of own s) s.name w

-- the leaf to which steps lead, one after the other
abbrev pub leaf_at : (own : ℕ) → List (Option Step) → Waypoint → Option Tree
leaf_at own [] w = leaf_at_end w
leaf_at own (s ∷ ss) w = option_and_then (leaf_at own ss) (follow_step own s w)

-- the leaf below a list that a path of a `unique` statement names
abbrev pub unique_leaf : (list : Tree) → List (Option Step) → Option Tree
unique_leaf list [] = None
unique_leaf (node l kids) (s ∷ ss) = leaf_at l.module_file (s ∷ ss) (at_node (node l kids))

-- the default case of a choice: a case, or a node that is a case of its own, of the choice's own
-- module (section 7.9.3)
abbrev pub default_case : (choice : Tree) → Option Tree
default_case (node l kids) = if is_choice l.defined.kind
    then child_of_text l.module_file (own_default l.defined) kids else None
