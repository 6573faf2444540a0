-- The same leafs by their numbers, where the nodes of the schema tree are numbered.
use Rattle.std.specs.Prelude.{ℕ, Bool, false, not, ◌&&◌, List, [], ◌∷◌, Option, Some, None, slice_get, if◌then◌else◌}
use Rattle.std.specs.List.{find}
use Rattle.std.specs.Option.{option_and_then, option_map}
use Rattle.yv_node_content.specs.declared.kind.NodeKind.{NodeKind}
use Rattle.yv_node_content.specs.Kinds.{is_case, is_choice, is_leaf, is_list}
use Rattle.yv_node_content.specs.Definition.{own_default}
use Rattle.yv_text_statement.specs.TextInFile.{TextInFile}
use Rattle.yv_nodes.specs.declared.node.NodeId.{NodeId}
use Rattle.yv_nodes.specs.Tree.{Tree, node, Forest}
use Rattle.yv_nodes.specs.Places.{Place, places}
use Rattle.yv_nodes.specs.Rows.{Row}
use Rattle.yv_node_content.specs.Steps.{Step}
use Rattle.yv_node_keys.specs.Targets.{module_file_of}
use Rattle.yv_nodes.specs.Children.{is_called}
use Rattle.yv_node_keys.specs.declared.place.Way.{Way}
use Rattle.yv_node_keys.specs.declared.place.Way.TheVariants.{AtNode, AtShorthandCase}

-- a node with what is below it
abbrev pub tree_in : Place → Tree
tree_in p = node p.label p.kids

-- the tree of a numbered node
abbrev pub tree_at : Forest → NodeId → Option Tree
tree_at ts n = option_map tree_in (slice_get (places ts) n.0)

-- a row is there and its node has this module and name
abbrev pub is_some_called : (module_file : ℕ) → (name : List ℕ) → Option Row → Bool
is_some_called module_file name None = false
is_some_called module_file name (Some r) = is_called module_file name r.label

-- the numbered node is of the module of this number and has this name
abbrev pub is_called_at : List Row → (module_file : ℕ) → (name : List ℕ) → NodeId → Bool
is_called_at rows module_file name n = is_some_called module_file name (slice_get rows n.0)

-- a row is there and the kind of its node passes the test
abbrev pub is_some_kind : (NodeKind → Bool) → Option Row → Bool
is_some_kind test None = false
is_some_kind test (Some r) = test r.label.defined.kind

-- the numbered node is of such a kind
abbrev pub is_kind_at : List Row → (NodeKind → Bool) → NodeId → Bool
is_kind_at rows test n = is_some_kind test (slice_get rows n.0)

-- the file of the module of a row's node
abbrev pub module_file_of_row : Option Row → ℕ
module_file_of_row None = 0
module_file_of_row (Some r) = r.label.module_file

-- the number of the file of the module whose namespace the numbered node is in
abbrev pub module_file_at : List Row → NodeId → ℕ
module_file_at rows n = module_file_of_row (slice_get rows n.0)

-- the children of a row's node
abbrev pub children_of : Option Row → List NodeId
children_of None = []
children_of (Some r) = r.children

-- the numbers of the nodes directly below it
abbrev pub children_at : List Row → NodeId → List NodeId
children_at rows n = children_of (slice_get rows n.0)

-- the first of the nodes directly below it that has this module and this name
abbrev pub child_at : List Row → (module_file : ℕ) → (name : List ℕ) → NodeId → Option NodeId
child_at rows module_file name n = find (is_called_at rows module_file name) (children_at rows n)

-- a node, if it is a leaf
abbrev pub leaf_of : List Row → NodeId → Option NodeId
leaf_of rows n = if is_kind_at rows is_leaf n then Some n else None

-- the leaf directly below a list that a step names
abbrev pub leaf_below : List Row → (own : ℕ) → (list : NodeId) → Option Step → Option NodeId
leaf_below rows own list None = None
leaf_below rows own list (Some s) =
    option_and_then (leaf_of rows) (child_at rows (module_file_of own s) s.name list)

-- the number of the leaf directly below a list that a name in its key names
abbrev pub key_leaf_at : List Row → (list : NodeId) → Option Step → Option NodeId
key_leaf_at rows list s = leaf_below rows (module_file_at rows list) list s

-- a node is in a choice without a `case` of its own (RFC 7950, section 7.9.2)
abbrev pub is_shorthand_case_at : List Row → (above below : NodeId) → Bool
is_shorthand_case_at rows above below =
    is_kind_at rows is_choice above && not (is_kind_at rows is_case below)

-- where a step down from a node leads: not into another list
abbrev pub arrived_at : List Row → (above below : NodeId) → Option Way
arrived_at rows above below =
    if is_kind_at rows is_list below then None
    else Some (if is_shorthand_case_at rows above below then AtShorthandCase below else AtNode below)

-- where a step of this module and name leads
abbrev pub stepped_at : List Row → (module_file : ℕ) → (name : List ℕ) → Way → Option Way
stepped_at rows module_file name (AtNode n) =
    option_and_then (arrived_at rows n) (child_at rows module_file name n)
stepped_at rows module_file name (AtShorthandCase n) =
    if is_called_at rows module_file name n then Some (AtNode n) else None

-- the leaf at which a path ends
abbrev pub leaf_at_end_of : List Row → Way → Option NodeId
leaf_at_end_of rows (AtNode n) = leaf_of rows n
leaf_at_end_of rows (AtShorthandCase n) = None

-- where one step of a path leads
abbrev pub led_by_at : List Row → (own : ℕ) → Option Step → Way → Option Way
led_by_at rows own None w = None
led_by_at rows own (Some s) w = stepped_at rows (module_file_of own s) s.name w

-- the leaf to which the steps of a path lead
abbrev pub led_at : List Row → (own : ℕ) → List (Option Step) → Way → Option NodeId
led_at rows own [] w = leaf_at_end_of rows w
led_at rows own (s ∷ ss) w = option_and_then (led_at rows own ss) (led_by_at rows own s w)

-- the number of the leaf below a list that a path of a `unique` statement names
abbrev pub unique_leaf_at : List Row → (list : NodeId) → List (Option Step) → Option NodeId
unique_leaf_at rows list [] = None
unique_leaf_at rows list (s ∷ ss) = led_at rows (module_file_at rows list) (s ∷ ss) (AtNode list)

-- the default of a choice
abbrev pub default_of : Option Row → Option TextInFile
default_of None = None
default_of (Some r) = if is_choice r.label.defined.kind then own_default r.label.defined else None

-- the case of a choice that a default names
abbrev pub case_of : List Row → (choice : NodeId) → Option TextInFile → Option NodeId
case_of rows choice None = None
case_of rows choice (Some written) = child_at rows (module_file_at rows choice) written.text choice

-- the number of the default case of a choice: of the nodes directly below it the first of the
-- choice's own module with the name that its own default says; none where there is no default, or
-- the node isn't a choice
abbrev pub default_case_at : List Row → (choice : NodeId) → Option NodeId
default_case_at rows choice = case_of rows choice (default_of (slice_get rows choice.0))
