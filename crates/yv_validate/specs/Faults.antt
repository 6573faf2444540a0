-- The faults of a document, each read from one thing that a validation meets (RFC 7950, sections
-- 7.5 to 7.11, 7.21.1 and 9; RFC 7951, sections 4 to 6).
use Rattle.std.specs.Prelude.{ℕ, zero, suc, ◌+◌, min, nat_lt, ◌&&◌, List, [], ◌∷◌, ◌++◌, length, map, Bool, false, Option, Some, None, is_some, option_map, unwrap_or, if◌then◌else◌}
use Rattle.std.specs.List.{flat_map}
use Rattle.serde_json.specs.Data.{Data, array, object}
use Rattle.serde_json.specs.Events.{items_len}
use Rattle.yv_node_content.specs.declared.kind.NodeKind.{NodeKind}
use Rattle.yv_node_content.specs.declared.kind.NodeKind.TheVariants as kind
use Rattle.yv_text_statement.specs.declared.document_kind.Kind.{Kind}
use Rattle.yv_values.specs.Values.{Val}
use Rattle.yv_nodes.specs.declared.node.NodeId.{NodeId}
use Rattle.yv_nodes.specs.Rows.{Rows}
use Rattle.yv_nodes.specs.Tree.{Label}
use Rattle.yv_schema_tables.specs.DataChildren.{opened_trees}
use Rattle.yv_walk.specs.Context.{unknown_names}
use Rattle.yv_walk.specs.Existence.{count_standing, is_there}
use Rattle.yv_data_leafrefs.specs.InUse.{enforces, enforces_beside, is_asked, value_of}
use Rattle.yv_data_leafrefs.specs.Meetings.{all_met, at, EntryEnd, found_of, Meeting, stand, at_value, at_end, at_node, Node, Stand, WrittenValue}
use Rattle.yv_data_leafrefs.specs.Place.{Place, under}
use Rattle.yv_data_leafrefs.specs.References.{all_references, number_of}
use Rattle.yv_data_faults.specs.declared.fault.FaultKind.{FaultKind}
use Rattle.yv_data_faults.specs.declared.fault.FaultKind.TheVariants.{Unknown, Shape, Value, MissingKey, Duplicate, Unique, Mandatory, Min, Max, Choice, Reference, State}
use Rattle.yv_data_faults.specs.Flaw.{Flaw}
use Rattle.yv_validate.specs.Repeats.{repeat_of}
use Rattle.yv_validate.specs.Values.{entry_tuple}
use Rattle.yv_data_quiet.specs.NamedLeafs.{key_leafs, unique_leafs}

-- a fault at a path, without a number
abbrev pub flaw : FaultKind → List Place → Flaw
flaw kind path = record { kind = kind; path = path; number = 0; earlier = None }

-- a fault, if this holds
abbrev pub flaw_if : Bool → FaultKind → List Place → List Flaw
flaw_if b kind path = if b then flaw kind path ∷ [] else []

-- an entry or item that repeats an earlier one of this number, where there is one: a fault tells
-- numbers of 32 bits
abbrev pub repeat_faults : Option ℕ → FaultKind → List Place → (number : ℕ) → List Flaw
repeat_faults None kind here number = []
repeat_faults (Some first) kind here number =
    record { kind = kind; path = here; number = number; earlier = Some (min first 4294967295) } ∷ []

-- ---- an object

-- one fault for each member that names no node, in the order of the object, which is that of the
-- names' bytes; or one for what is not an object
abbrev pub object_faults : Stand → Data → List Flaw
object_faults m (object ms) =
    map (λ key. flaw Unknown (under m.spot.path key)) (unknown_names (opened_trees m.trees) ms)
object_faults m _ = flaw Shape m.spot.path ∷ []

-- ---- a value

-- what may be only once in a leaf-list: its value, where it is configuration (section 7.7)
abbrev pub item_tuple : Label → Data → Option (List Val)
item_tuple l d = if l.is_config then option_map (λ v. v ∷ []) (value_of l d) else None

-- an item has the value of one before it, the first of which has this number
abbrev pub repeated_item : Label → Option (List Data) → Data → Option ℕ
repeated_item l None d = None
repeated_item l (Some before) d = repeat_of (item_tuple l) before d

-- the faults of a value: that it repeats an earlier one, or that no type has it
abbrev pub value_faults : WrittenValue → List Flaw
value_faults m =
    let here : List Place = at m.spot m.label (number_of m.before) in
    if is_some (value_of m.label m.found)
    then repeat_faults (repeated_item m.label m.before m.found) Duplicate here 0
    else flaw Value here ∷ []

-- ---- the end of an entry

-- a `unique` statement that is repeated, by its number from 1, and the first entry that it repeats
abbrev pub unique_if : Option ℕ → List Place → ℕ → List Flaw
unique_if first here n = repeat_faults first Unique here (min n 4294967295)

-- the `unique` statements, the first of which has this number, whose values an entry repeats
-- (section 7.8.3)
abbrev pub unique_faults : (List (Option NodeId) → Data → Option (List Val)) → List Place → ℕ
    → List (List (Option NodeId)) → List Data → Data → List Flaw
unique_faults tuple here from [] before d = []
unique_faults tuple here from (leafs ∷ rest) before d =
    unique_if (repeat_of (tuple leafs) before d) here from
    ++ unique_faults tuple here (from + 1) rest before d

-- the leafs that make entries of a list differ
pub record Leafs : Type 0 where
  pub keys : List (Option NodeId)
  pub uniques : List (List (Option NodeId))

-- the leafs that a list's key and `unique` statements name
abbrev pub leafs_of : Rows → NodeId → Label → Leafs
leafs_of s n l = record { keys = key_leafs s n l; uniques = unique_leafs s n l }

-- after an entry: whether its keys are those of one before (section 7.8.2), and then the `unique`
-- statements
abbrev pub end_faults : Leafs → (List (Option NodeId) → Data → Option (List Val)) → List Place
    → List Data → Data → List Flaw
end_faults leafs tuple here before d =
    repeat_faults (repeat_of (tuple leafs.keys) before d) Duplicate here 0
    ++ unique_faults tuple here 1 leafs.uniques before d

-- the values of these leafs in an entry, where each has one
abbrev pub tuple_at : Kind → Rows → EntryEnd → List (Option NodeId) → Data → Option (List Val)
tuple_at k s m leafs d = entry_tuple k s (m.node.0 + 1) m.trees leafs d

-- the faults of a list entry as a whole
abbrev pub ending_faults : Kind → Rows → EntryEnd → List Flaw
ending_faults k s m =
    end_faults (leafs_of s m.node m.label) (tuple_at k s m)
    (at m.spot m.label (Some (length m.before + 1))) m.before m.found

-- ---- a node, after what is below it

-- a leaf, choice, anydata or anyxml that is missing (sections 7.6.5 and 7.9.4)
abbrev pub missing_fault : Node → List Flaw
missing_fault m =
    flaw_if (m.label.defined.is_mandatory && enforces m.scope) Mandatory (at m.spot m.label None)

-- what is written is not of the node's form
abbrev pub misshapen : Node → List Flaw
misshapen m = flaw Shape (at m.spot m.label None) ∷ []

-- the faults of a leaf
abbrev pub leaf_faults : Node → Option Data → List Flaw
leaf_faults m None =
    if m.label.is_key then flaw MissingKey (at m.spot m.label None) ∷ [] else missing_fault m
leaf_faults m (Some d) = []

-- the faults of an anydata node
abbrev pub anydata_faults : Node → Option Data → List Flaw
anydata_faults m None = missing_fault m
anydata_faults m (Some (object ms)) = []
anydata_faults m (Some _) = misshapen m

-- the faults of an anyxml node
abbrev pub anyxml_faults : Node → Option Data → List Flaw
anyxml_faults m None = missing_fault m
anyxml_faults m (Some d) = []

-- a list or leaf-list with so many items (sections 7.7.5 and 7.7.6)
abbrev pub count_faults : Node → ℕ → List Flaw
count_faults m total =
    flaw_if (nat_lt total m.label.defined.min && enforces_beside m.node m.scope) Min
    (at m.spot m.label None)
    ++ flaw_if (unwrap_or (option_map (λ most. nat_lt most total) m.label.defined.max) false) Max
    (at m.spot m.label None)

-- the faults of a list or leaf-list as a whole
abbrev pub array_faults : Node → Option Data → List Flaw
array_faults m None = count_faults m 0
array_faults m (Some (array ds)) = count_faults m (items_len ds)
array_faults m (Some _) = misshapen m

-- a choice of which so many cases exist (section 7.9)
abbrev pub choice_faults : Node → ℕ → List Flaw
choice_faults m zero = missing_fault m
choice_faults m (suc zero) = []
choice_faults m (suc (suc n)) = flaw Choice (at m.spot m.label None) ∷ []

-- a node for which this is written
abbrev pub kind_faults : NodeKind → Node → Option Data → List Flaw
kind_faults kind.Leaf m found = leaf_faults m found
kind_faults kind.LeafList m found = array_faults m found
kind_faults kind.List m found = array_faults m found
kind_faults kind.Choice m found = choice_faults m (count_standing (m.node.0 + 1) m.kids m.members)
kind_faults kind.Anydata m found = anydata_faults m found
kind_faults kind.Anyxml m found = anyxml_faults m found
kind_faults _ m found = []

-- state that exists where configuration only is asked for (section 7.21.1): choices and cases
-- aren't written
abbrev pub state_faults : NodeKind → Node → Option Data → List Flaw
state_faults k m None = []
state_faults k m (Some d) = flaw_if (is_there k d) State (at m.spot m.label None)

-- the faults of a data node, as configuration or as state is asked for
abbrev pub node_faults : NodeKind → Node → Option Data → List Flaw
node_faults k m found = if is_asked m.scope then kind_faults k m found else state_faults k m found

-- ---- all of them

-- the faults of what is met
abbrev pub faults_at : Kind → Rows → Meeting → List Flaw
faults_at k s (stand m) = object_faults m m.found
faults_at k s (at_value m) = value_faults m
faults_at k s (at_end m) = ending_faults k s m
faults_at k s (at_node m) = node_faults m.label.defined.kind m (found_of m)

-- references that reach nothing, at these paths (section 9.9)
abbrev pub reference_faults : List (List Place) → List Flaw
reference_faults paths = map (λ path. flaw Reference path) paths

-- the faults of a whole document: what is wrong with its data, and after it the values of leafrefs
-- that are the same as none that their paths reach
abbrev pub faults : Kind → Rows → Data → List Flaw
faults k s d = flat_map (faults_at k s) (all_met k s d) ++ reference_faults (all_references k s d)
