-- Only private clauses cite this: what the functions of a walk ask for, and what they promise.
use Rattle.std.specs.Prelude.{◌≡◌, ◌<◌, ◌≤◌, ◌+◌, ◌*◌, ℕ, List, [], ◌∷◌, ◌++◌, length, true, false, Option, Some, None, option_map, if◌then◌else◌}
use Rattle.std.specs.Borrow.{Bor}
use Rattle.serde_json.specs.Data.{Data, Items, Members, object}
use Rattle.serde_json.specs.View.{view}
use Rattle.serde_json.specs.declared.value.Value.{Value}
use Rattle.yv_node_content.specs.Kinds.{is_data}
use Rattle.yv_node_content.specs.declared.kind.NodeKind.{NodeKind}
use Rattle.yv_node_content.specs.declared.kind.NodeKind.TheVariants.{Choice}
use Rattle.yv_values.specs.Pairs.{Pair}
use Rattle.yv_values.specs.Values.{Val}
use Rattle.yv_nodes.specs.declared.node.NodeId.{NodeId}
use Rattle.yv_nodes.specs.Defaults.{defaults_of}
use Rattle.yv_nodes.specs.Rows.{below, rank, row_at, Rows, whole}
use Rattle.yv_node_keys.specs.Numbers.{default_case_at}
use Rattle.yv_schema_tables.specs.Measures.{measures_of}
use Rattle.yv_schema_tables.specs.Sound.{is_object}
use Rattle.yv_walk.specs.Context.{members_of}
use Rattle.yv_walk.specs.Existence.{any, existence_of}
use Rattle.yv_walk.specs.declared.context.Context.{Context}
use Rattle.yv_data_leafrefs.specs.Findings.{FindingsView}
use Rattle.yv_data_leafrefs.specs.InUse.{is_asked, uses_defaults, value_of}
use Rattle.yv_data_leafrefs.specs.Meetings.{at_value, Meeting, Node, Spot}
use Rattle.yv_data_leafrefs.specs.Place.{under}
use Rattle.yv_data_leafrefs.specs.declared.scope.RuleScope.{RuleScope}
use Rattle.yv_data_faults.specs.Flaw.{Flaw}
use Rattle.yv_data_faults.specs.Trails.{Flaws, IsWithin, places}
use Rattle.yv_data_faults.specs.declared.fault.FaultKind.TheVariants.{Unknown}
use Rattle.yv_data_faults.specs.declared.trail.Trail.{Trail}
use Rattle.yv_validate.specs.Faults.{faults, flaw, item_tuple}
use Rattle.yv_validate.specs.InnerMemory.{Remembers}
use Rattle.yv_validate.specs.InnerNotes.{default_value, GainsBy}
use Rattle.yv_validate.specs.InnerWalk.{cases_met, children_met, Closes, container_at, data_met, defaults_found, empty_found, entries_at, Grows, GrowsWith, list_at, Meets, MeetsBelow, next_of, node_at, object_at, one_met, plain_at, progress_view, scope_at, spot_at, unknowns, value_found, with_node, Writes, written_at}
use Rattle.yv_validate.specs.Size.{size}
use Rattle.yv_validate.specs.Work.{value_work, work}
use Rattle.yv_validate.specs.declared.notes.Notes.{Notes}
use Rattle.yv_validate.specs.declared.progress.Progress.{Progress}
use Rattle.yv_validate.specs.declared.walk.Visit.{Visit}
use Rattle.yv_validate.specs.declared.walk.Walk.{Walk}

-- ---- what they ask for

-- a node of the schema, on a way in it
pub record IsNodeOn (w : Walk) (v : Visit) : Type 0 where
  pub node : v.id.0 < length w.schema.now.nodes
  pub way : IsWithin w.schema.now v.path.now

-- a container or list
pub record IsObjectOn (w : Walk) (v : Visit) : Type 0 where
  pub node : v.id.0 < length w.schema.now.nodes
  pub object : is_object w.schema.now v.id ≡ true
  pub way : IsWithin w.schema.now v.path.now

-- a container or list, or the root of the schema
pub record IsParentOn (w : Walk) (v : Visit) : Type 0 where
  pub node : rank v.id ≤ length w.schema.now.nodes
  pub object : is_object w.schema.now v.id ≡ true
  pub way : IsWithin w.schema.now v.path.now

-- a data node
pub record IsDataOn (w : Walk) (v : Visit) : Type 0 where
  pub node : v.id.0 < length w.schema.now.nodes
  pub «data» : is_data (row_at w.schema.now v.id).label.defined.kind ≡ true
  pub way : IsWithin w.schema.now v.path.now

-- a data node, where nothing is asked of it
pub record IsStateOn (w : Walk) (v : Visit) : Type 0 where
  pub node : v.id.0 < length w.schema.now.nodes
  pub «data» : is_data (row_at w.schema.now v.id).label.defined.kind ≡ true
  pub nothing_asked : is_asked v.scope ≡ false
  pub way : IsWithin w.schema.now v.path.now

-- a leaf, or a leaf-list, of which something is asked
pub record IsAskedOn (w : Walk) (v : Visit) (K : NodeKind) : Type 0 where
  pub node : v.id.0 < length w.schema.now.nodes
  pub kind : (row_at w.schema.now v.id).label.defined.kind ≡ K
  pub asks : is_asked v.scope ≡ true
  pub way : IsWithin w.schema.now v.path.now

-- a node that may be in an object, on the way to it
pub record MayMeet (w : Walk) (v : Visit) (c : Context) : Type 0 where
  pub node : v.id.0 < length w.schema.now.nodes
  pub meets : Meets w.schema.now c v.id
  pub way : IsWithin w.schema.now v.path.now

-- a node whose children may be in it
pub record MayMeetBelow (w : Walk) (v : Visit) (c : Context) : Type 0 where
  pub node : rank v.id ≤ length w.schema.now.nodes
  pub meets : MeetsBelow w.schema.now c v.id
  pub way : IsWithin w.schema.now v.path.now

-- a choice that may be in it, as its cases may
pub record MayChoose (w : Walk) (v : Visit) (c : Context) : Type 0 where
  pub node : v.id.0 < length w.schema.now.nodes
  pub itself : Meets w.schema.now c v.id
  pub kind : (row_at w.schema.now v.id).label.defined.kind ≡ Choice
  pub meets : MeetsBelow w.schema.now c v.id
  pub way : IsWithin w.schema.now v.path.now

-- ---- what they promise

-- the faults of a document that is an object of these members, and its steps
abbrev pub faults_in : Walk → Members → List Flaw
faults_in w ms = faults w.kind w.schema.now (object ms)

abbrev pub work_in : Walk → Members → ℕ
work_in w ms = work w.kind w.schema.now (object ms)

-- the most steps that a document may take
abbrev pub most_work : Rows → Data → ℕ
most_work s d = (size d + 1) *
    ((measures_of (whole s)).m + (measures_of (whole s)).u + (measures_of (whole s)).w + 1)

-- these faults are reported, after the others
abbrev pub Reports : Flaws → Flaws → List Flaw → Type 0
Reports old new more = new.items ≡ old.items ++ more

-- the members that name no node, in an object of a node that is met on this way
abbrev pub unknowns_in : Walk → Visit → Members → List Flaw
unknowns_in w v ms = unknowns (places w.schema.now v.path.now) (below w.schema.now v.id) ms

-- one of them, at the end of this way
abbrev pub unknown_at : Walk → Trail → List ℕ → Flaw
unknown_at w trail key = flaw Unknown (under (places w.schema.now trail) key)

-- the walk gains what is met, and the number of the next object
abbrev pub GrowsBy : Walk → Progress → Progress → List Meeting → Type 0
GrowsBy w old new ms = Grows w.kind w.schema.now (progress_view old) (progress_view new) ms

abbrev pub next_at : Progress → ℕ
next_at p = next_of (progress_view p)

-- by what is met on this way, in the object of this number, whatever objects are around it, and
-- whatever entry it is in
abbrev pub GrowsAt : Walk → Visit → Progress → Progress → (Spot → ℕ → List Meeting) → Type 0
GrowsAt w v old new met_at = (outer : List ℕ) (entry : ℕ)
    → GrowsBy w old new (met_at (spot_at w.schema.now v.path.now v.position outer entry)
    (next_at old))

-- by that, and by faults of the node's own after it
abbrev pub GrowsWithAt : Walk → Visit → Progress → Progress → (Spot → ℕ → List Meeting) → List Flaw
    → Type 0
GrowsWithAt w v old new met_at own = (outer : List ℕ) (entry : ℕ)
    → GrowsWith w.kind w.schema.now (progress_view old) (progress_view new)
    (met_at (spot_at w.schema.now v.path.now v.position outer entry) (next_at old)) own

-- by that, and by the node itself, whose visit is counted already
abbrev pub ClosesAt : Walk → Visit → Progress → Progress → (Spot → ℕ → List Meeting) → (Spot → Node)
    → Type 0
ClosesAt w v old new met_at node_of = (outer : List ℕ) (entry : ℕ)
    → Closes w.kind w.schema.now (progress_view old) (progress_view new)
    (met_at (spot_at w.schema.now v.path.now v.position outer entry) (next_at old))
    (node_of (spot_at w.schema.now v.path.now v.position outer entry))

-- what is written for a node, where something is
abbrev pub data_of : Option (Bor Value) → Option Data
data_of value = option_map (λ v. view v.now) value

-- the same of a data node for which this is written, whatever members write it
abbrev pub ClosesData : Walk → Visit → Progress → Progress → Option (Bor Value)
    → (Option Data → Spot → ℕ → List Meeting) → Type 0
ClosesData w v old new value met_of = (ms : Members) → Writes w.schema.now v.id (data_of value) ms
    → ClosesAt w v old new (met_of (data_of value)) (node_at w.schema.now v.scope v.id ms)

-- and of the values of leafs that are noted
abbrev pub GainsData : Walk → Visit → Notes → Notes → Option (Bor Value)
    → (Option Data → Spot → ℕ → List Meeting) → Type 0
GainsData w v old new value met_of = (ms : Members) → Writes w.schema.now v.id (data_of value) ms
    → GainsBy w.schema.now old new
    (with_node (met_of (data_of value)) (node_at w.schema.now v.scope v.id ms))

-- ---- what is met in an object

-- at the nodes below one, each in this scope
abbrev pub met_below : Walk → RuleScope → NodeId → Context → Spot → ℕ → List Meeting
met_below w scope n c = children_met w.kind w.schema.now scope n (members_of c)

-- at the cases of a choice
abbrev pub met_in_cases : Walk → NodeId → Context → Spot → ℕ → List Meeting
met_in_cases w n c = cases_met w.kind w.schema.now n (members_of c)

-- its default case, where none of its cases exists
abbrev pub fallback_in : Walk → NodeId → Context → Option NodeId
fallback_in w n c = if any (existence_of (rank n) (below w.schema.now n) (members_of c)) then None
    else default_case_at w.schema.now.nodes n

-- at a node whose surroundings have this scope
abbrev pub met_at_node : Walk → Visit → Context → Spot → ℕ → List Meeting
met_at_node w v c =
    one_met w.kind w.schema.now (scope_at w.kind w.schema.now v.scope v.id) v.id (members_of c)

-- at a data node, but for the node itself
abbrev pub met_at_data : Walk → Visit → Option Data → Spot → ℕ → List Meeting
met_at_data w v found = data_met w.kind w.schema.now v.scope v.id found

-- at a container
abbrev pub met_in_container : Walk → Visit → Option (Bor Value) → Spot → ℕ → List Meeting
met_in_container w v value = container_at w.kind w.schema.now v.scope v.id (data_of value)

-- the default of a leaf, where it is in use
abbrev pub default_in_use : Walk → Visit → Option Val
default_in_use w v =
    if uses_defaults v.scope then default_value (row_at w.schema.now v.id).label else None

-- at a list, and at its entries
abbrev pub met_in_list : Walk → Visit → Option (Bor Value) → Spot → ℕ → List Meeting
met_in_list w v value = list_at w.kind w.schema.now v.id (data_of value)

abbrev pub met_in_entries : Walk → Visit → Items → Spot → ℕ → List Meeting
met_in_entries w v ds = entries_at w.kind w.schema.now v.id [] ds

-- at an item after these
abbrev pub met_at_item : Walk → Visit → List Data → Data → Spot → ℕ → List Meeting
met_at_item w v before d spot next =
    at_value (written_at w.schema.now v.id (Some before) d spot) ∷ []

-- in an object of a node, and where it is to be
abbrev pub met_in_object : Walk → Visit → Option ℕ → List ℕ → ℕ → Progress → Data → List Meeting
met_in_object w v item outer entry old d =
    object_at w.kind w.schema.now v.id item v.path.now outer entry (next_at old) d

-- the value of what is written for a leaf or an item
abbrev pub value_at : Walk → Visit → Value → Option Val
value_at w v json = value_of (row_at w.schema.now v.id).label (view json)

-- a node as its own faults are read
abbrev pub own_node : Walk → Visit → Node
own_node w v = plain_at w.schema.now v.scope v.id v.path.now

-- the node itself, in the object
abbrev pub node_in : Walk → Visit → Context → Spot → Node
node_in w v c = node_at w.schema.now v.scope v.id (members_of c)

-- ---- what is found at a leaf

-- the steps of what is written for a leaf or an item
abbrev pub work_at_value : Walk → Visit → Value → ℕ
work_at_value w v json = value_work (row_at w.schema.now v.id).label (view json)

-- for references: of a value that was read, of all defaults, and of those that are in use
abbrev pub value_found_at : Walk → Visit → Option ℕ → Option Val → FindingsView
value_found_at w v item value = value_found w.schema.now v.id v.position item value

abbrev pub all_defaults_found : Walk → Visit → FindingsView
all_defaults_found w v =
    defaults_found w.schema.now v.id v.position (defaults_of (row_at w.schema.now v.id).label)

abbrev pub default_found : Walk → Visit → FindingsView
default_found w v = empty_found w.schema.now v.scope v.id v.position

-- an index knows the tuples of these items
abbrev pub RemembersItems : Walk → Visit → List Pair → List Data → Type 0
RemembersItems w v kept before = Remembers kept (item_tuple (row_at w.schema.now v.id).label) before
