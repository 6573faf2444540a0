-- What a validation meets in a document, by the tree of its schema and in order (RFC 7950, sections
-- 7.5 to 7.11): one list, from which the faults, the references, the values of leafs and the steps
-- are each read.
use Rattle.std.specs.Prelude.{ℕ, ◌+◌, ◌&&◌, not, List, [], ◌∷◌, ◌++◌, length, Bool, Option, Some, None, is_some, if◌then◌else◌}
use Rattle.std.specs.List.{sum_by}
use Rattle.serde_json.specs.Data.{Data, array, object, Items, no_items, item, Members, no_members}
use Rattle.serde_json.specs.Find.{get_member}
use Rattle.yv_node_content.specs.Kinds.{is_data, is_operation_or_notification}
use Rattle.yv_node_content.specs.declared.kind.NodeKind.{NodeKind}
use Rattle.yv_node_content.specs.declared.kind.NodeKind.TheVariants as kind
use Rattle.yv_nodes.specs.declared.node.NodeId.{NodeId}
use Rattle.yv_nodes.specs.Rows.{Rows, root, whole}
use Rattle.yv_nodes.specs.Tree.{count, Label, Tree, node, Forest, no_trees, tree}
use Rattle.yv_data_leafrefs.specs.Place.{Place, step_name}
use Rattle.yv_text_statement.specs.declared.document_kind.Kind.{Kind}
use Rattle.yv_data_leafrefs.specs.declared.scope.RuleScope.{RuleScope}
use Rattle.yv_data_leafrefs.specs.declared.scope.RuleScope.TheVariants.{Always}
use Rattle.yv_data_leafrefs.specs.InUse.{case_scope, is_asked, scope_in}

-- where something is met: the path of the node above it, and the numbers of the objects around it,
-- from the closest on; of these `entry` is the closest that is an entry of a list, or the document
pub record Spot : Type 0 where
  pub path : List Place
  pub around : List ℕ
  pub entry : ℕ

-- the path of a node that is met there, with its number from 1 where it is an entry or an item
abbrev pub at : Spot → Label → Option ℕ → List Place
at spot l number = spot.path ++ record { member = step_name l; item = number } ∷ []

-- ---- what may be met

-- what is written where an object is to be: the document, a container or an entry, with its number
-- from 1 where it is an entry; what is in it is met at this spot, by these trees, and the objects
-- in it have the numbers up to `last`
pub record Stand : Type 0 where
  pub node : NodeId
  pub item : Option ℕ
  pub spot : Spot
  pub last : ℕ
  pub trees : Forest
  pub found : Data

-- a value that is written for a leaf, or for an item of a leaf-list, with the items before it
pub record WrittenValue : Type 0 where
  pub node : NodeId
  pub label : Label
  pub spot : Spot
  pub before : Option (List Data)
  pub found : Data

-- the end of an entry of a list, with the entries before it
pub record EntryEnd : Type 0 where
  pub node : NodeId
  pub label : Label
  pub spot : Spot
  pub before : List Data
  pub trees : Forest
  pub found : Data

-- a node in an object with these members, after what is below it; `kids` are the trees below it
pub record Node : Type 0 where
  pub node : NodeId
  pub label : Label
  pub spot : Spot
  pub scope : RuleScope
  pub members : Members
  pub kids : Forest

-- what a walk over a document meets: an object, a value, the end of a list entry, or a data node
pub data Meeting : Type 0 where
  stand : Stand → Meeting
  at_value : WrittenValue → Meeting
  at_end : EntryEnd → Meeting
  at_node : Node → Meeting

-- what is written for a node in the object that it is in
abbrev pub found_of : Node → Option Data
found_of m = get_member m.label.member m.members

-- how many objects are entered
abbrev pub is_entered : Data → ℕ
is_entered (object ms) = 1
is_entered _ = 0

-- how many objects are entered where something is met
abbrev pub entered_at : Meeting → ℕ
entered_at (stand m) = is_entered m.found
entered_at _ = 0

-- how many objects are entered in all
abbrev pub count_entered : List Meeting → ℕ
count_entered ms = sum_by entered_at ms

-- ---- an object, and what is in it

-- what is below a node: `inside` is in an object of its own, or in none, at a spot, where the next
-- object has this number, and in a scope; in the object around it are `cases`, where it is a
-- choice, and `nodes`, where it is a case
pub record Below : Type 0 where
  pub inside : Spot → ℕ → RuleScope → Members → List Meeting
  pub cases : List Meeting
  pub nodes : List Meeting

-- the place inside a container
abbrev pub in_container : Spot → ℕ → Label → Spot
in_container spot next l =
    record { path = at spot l None; around = next ∷ spot.around; entry = spot.entry }

-- the place inside a container that isn't written
abbrev pub in_no_object : Spot → Label → Spot
in_no_object spot l = record { path = at spot l None; around = spot.around; entry = spot.entry }

-- the place inside a list entry
abbrev pub in_entry : Spot → ℕ → Label → ℕ → Spot
in_entry spot next l number =
    record { path = at spot l (Some number); around = next ∷ spot.around; entry = next }

-- only an object is entered
abbrev pub meetings_inside : Data → (Members → List Meeting) → List Meeting
meetings_inside (object ms) inside = inside ms
meetings_inside _ inside = []

-- what is met at an object and in it
abbrev pub object_met : NodeId → Option ℕ → Forest → Spot → ℕ → Data → Below → List Meeting
object_met n number kids spot next d below =
    let inside : List Meeting = meetings_inside d (λ ms. below.inside spot (next + 1) Always ms) in
    stand (record {
      node = n;
      item = number;
      spot = spot;
      last = next + count_entered inside;
      trees = kids;
      found = d;
    }) ∷ inside

-- ---- a node, by its kind

-- a container that isn't written and means nothing by itself has its nodes where it is, in its own
-- scope (section 7.5.1)
abbrev pub container_met : NodeId → Label → Forest → Spot → RuleScope → ℕ → Option Data → Below
    → List Meeting
container_met n l kids spot scope next None below =
    if l.defined.has_presence then [] else below.inside (in_no_object spot l) next scope no_members
container_met n l kids spot scope next (Some d) below =
    object_met n None kids (in_container spot next l) next d below

-- what is met at the value of a leaf
abbrev pub leaf_met : NodeId → Label → Spot → Option Data → List Meeting
leaf_met n l spot None = []
leaf_met n l spot (Some d) =
    at_value (record { node = n; label = l; spot = spot; before = None; found = d }) ∷ []

-- what is met at the values of a leaf-list, in order
abbrev pub items_met : NodeId → Label → Spot → List Data → Items → List Meeting
items_met n l spot before no_items = []
items_met n l spot before (item d ds) =
    at_value (record { node = n; label = l; spot = spot; before = Some before; found = d })
    ∷ items_met n l spot (before ++ d ∷ []) ds

-- what is met at a list entry: the object, and its end
abbrev pub entry_met : NodeId → Label → Forest → Spot → ℕ → List Data → Data → Below → List Meeting
entry_met n l kids spot next before d below =
    object_met n (Some (length before + 1)) kids
    (in_entry spot next l (length before + 1)) next d below
    ++ at_end (record {
      node = n;
      label = l;
      spot = spot;
      before = before;
      trees = kids;
      found = d;
    }) ∷ []

-- what is met at the entries of a list, in order
abbrev pub entries_met : NodeId → Label → Forest → Spot → ℕ → List Data → Items → Below
    → List Meeting
entries_met n l kids spot next before no_items below = []
entries_met n l kids spot next before (item d ds) below =
    entry_met n l kids spot next before d below
    ++ entries_met n l kids spot
    (next + count_entered (entry_met n l kids spot next before d below))
    (before ++ d ∷ []) ds below

-- an array, item by item
abbrev pub array_met : Option Data → (Items → List Meeting) → List Meeting
array_met (Some (array ds)) each = each ds
array_met _ each = []

-- what is met at a node, by its kind
abbrev pub kind_met : NodeKind → NodeId → Label → Forest → Spot → RuleScope → ℕ → Option Data
    → Below → List Meeting
kind_met kind.Container n l kids spot scope next found below =
    container_met n l kids spot scope next found below
kind_met kind.Leaf n l kids spot scope next found below = leaf_met n l spot found
kind_met kind.LeafList n l kids spot scope next found below =
    array_met found (items_met n l spot [])
kind_met kind.List n l kids spot scope next found below =
    array_met found (λ ds. entries_met n l kids spot next [] ds below)
kind_met kind.Choice n l kids spot scope next found below = below.cases
kind_met kind.Case n l kids spot scope next found below = below.nodes
kind_met _ n l kids spot scope next found below = []

-- state is written where configuration only is asked for: it isn't entered
abbrev pub is_left : NodeKind → RuleScope → Option Data → Bool
is_left k scope found = is_data k && not (is_asked scope) && is_some found

-- a node after what is below it; operations, notifications and what is in them are in no document
abbrev pub node_met : NodeId → Label → Forest → Spot → RuleScope → ℕ → Members → Below
    → List Meeting
node_met n l kids spot scope next ms below =
    if is_operation_or_notification l.defined.kind then []
    else (if is_left l.defined.kind scope (get_member l.member ms) then []
    else kind_met l.defined.kind n l kids spot scope next (get_member l.member ms) below)
    ++ at_node (record {
      node = n;
      label = l;
      spot = spot;
      scope = scope;
      members = ms;
      kids = kids;
    }) ∷ []

-- ---- all nodes

-- what is met by these trees in an object with these members: the first node has the number
-- `first`, each tree its scope, and the next object the number `next`
abbrev pub meetings : Kind → Rows → (ℕ → Tree → RuleScope) → Spot → (next first : ℕ) → Forest
    → Members → List Meeting
meetings k s scope_of spot next first no_trees ms = []
meetings k s scope_of spot next first (tree (node l kids) ts) ms =
    let n : NodeId = record { 0 = first } in
    let scope : RuleScope = scope_in k l.is_config (scope_of first (node l kids)) in
    let here : List Meeting = node_met n l kids spot scope next ms (record {
      inside = λ at from inner ds. meetings k s (λ m t. inner) at from (first + 1) kids ds;
      cases = meetings k s (case_scope s n (first + 1) kids ms) spot next (first + 1) kids ms;
      nodes = meetings k s (λ m t. scope) spot next (first + 1) kids ms;
    }) in
    here ++ meetings k s scope_of spot (next + count_entered here) (first + 1 + count kids) ts ms

-- the document, which has the number 0
abbrev pub top : Spot
top = record { path = []; around = 0 ∷ []; entry = 0 }

-- what is met in a whole document
abbrev pub all_met : Kind → Rows → Data → List Meeting
all_met k s d = object_met root None (whole s) top 0 d (record {
  inside = λ spot next scope ms. meetings k s (λ m t. scope) spot next 0 (whole s) ms;
  cases = [];
  nodes = [];
})
