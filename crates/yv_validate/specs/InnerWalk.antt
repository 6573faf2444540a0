-- Only private clauses cite this: what is met at one node of the schema, and at nodes one after the
-- other, by their numbers; and what a walk gains by what it meets.
use Rattle.std.specs.Prelude.{◌≡◌, ◌<◌, ℕ, ◌+◌, List, [], ◌∷◌, ◌++◌, length, map, true, Option, if◌then◌else◌}
use Rattle.std.specs.List.{flat_map, slice_index_or, sum_by}
use Rattle.serde_json.specs.Data.{Data, Items, Members, no_members}
use Rattle.yv_text_statement.specs.declared.document_kind.Kind.{Kind}
use Rattle.yv_values.specs.Count.{count_up}
use Rattle.yv_values.specs.Values.{Val}
use Rattle.yv_nodes.specs.declared.node.NodeId.{NodeId}
use Rattle.yv_nodes.specs.Defaults.{defaults_of}
use Rattle.yv_nodes.specs.Link.{is_target, link_in}
use Rattle.yv_nodes.specs.Rows.{Rows, below, children_of, rank, row_at, tree_of}
use Rattle.yv_nodes.specs.Tree.{Forest, Tree}
use Rattle.yv_schema_tables.specs.DataChildren.{opened_trees}
use Rattle.yv_walk.specs.Context.{IsContext, parent_of, unknown_names}
use Rattle.yv_walk.specs.Existence.{stands_in}
use Rattle.yv_walk.specs.declared.context.Context.{Context}
use Rattle.yv_data_leafrefs.specs.declared.scope.RuleScope.{RuleScope}
use Rattle.yv_data_leafrefs.specs.Findings.{Findings, Finds, kept_if, FindingsView, met_in, only_used, used_if, value_notes}
use Rattle.yv_data_leafrefs.specs.InUse.{case_scope, scope_in, uses_defaults}
use Rattle.yv_data_leafrefs.specs.Meetings.{array_met, Below, container_met, count_entered, entries_met, is_left, items_met, kind_met, leaf_met, Meeting, meetings, at_node, Node, node_met, object_met, Spot, WrittenValue}
use Rattle.yv_data_leafrefs.specs.Place.{Place, under}
use Rattle.serde_json.specs.Find.{get_member}
use Rattle.yv_validate.specs.Faults.{faults_at, flaw}
use Rattle.yv_data_faults.specs.Flaw.{Flaw}
use Rattle.yv_data_faults.specs.Trails.{places}
use Rattle.yv_validate.specs.Work.{work_at}
use Rattle.yv_data_faults.specs.declared.fault.FaultKind.TheVariants.{Unknown}
use Rattle.yv_validate.specs.declared.progress.Progress.{Progress}
use Rattle.yv_data_faults.specs.declared.trail.Trail.{Trail}

-- the node may be in the object
pub record Meets (s : Rows) (c : Context) (n : NodeId) : Type 0 where
  pub context : IsContext s c
  pub stands : stands_in s (parent_of c) n ≡ true

-- the children of the node may be in it
pub record MeetsBelow (s : Rows) (c : Context) (p : NodeId) : Type 0 where
  pub context : IsContext s c
  pub stand : (i : ℕ) (d : NodeId) → i < length (children_of s p)
      → stands_in s (parent_of c) (slice_index_or (children_of s p) i d) ≡ true

-- ---- what is met, where the node is in this scope already

-- below the node n, where the first node there has this number
abbrev pub below_from : Kind → Rows → RuleScope → Spot → ℕ → NodeId → (first : ℕ) → Members → Below
below_from k s scope spot next n first ms = record {
  inside = λ at from inner ds. meetings k s (λ m t. inner) at from first (below s n) ds;
  cases = meetings k s (case_scope s n first (below s n) ms) spot next first (below s n) ms;
  nodes = meetings k s (λ m t. scope) spot next first (below s n) ms;
}

abbrev pub one_from : Kind → Rows → RuleScope → NodeId → (first : ℕ) → Members → Spot → ℕ
    → List Meeting
one_from k s scope n first ms spot next =
    node_met n (row_at s n).label (below s n) spot scope next ms
    (below_from k s scope spot next n first ms)

-- at one node, and what is below it
abbrev pub one_met : Kind → Rows → RuleScope → NodeId → Members → Spot → ℕ → List Meeting
one_met k s scope n ms spot next = one_from k s scope n (rank n) ms spot next

-- the scope of a node that has this scope around it
abbrev pub scope_at : Kind → Rows → RuleScope → NodeId → RuleScope
scope_at k s scope n = scope_in k (row_at s n).label.is_config scope

-- at nodes, one after the other
abbrev pub ones_met : Kind → Rows → (ℕ → Tree → RuleScope) → List NodeId → Members → Spot → ℕ
    → List Meeting
ones_met k s scope_of [] ms spot next = []
ones_met k s scope_of (n ∷ ns) ms spot next =
    let here : List Meeting =
    one_met k s (scope_at k s (scope_of n.0 (tree_of s n)) n) n ms spot next in
    here ++ ones_met k s scope_of ns ms spot (next + count_entered here)

-- at the nodes below one, each in this scope
abbrev pub children_met : Kind → Rows → RuleScope → NodeId → Members → Spot → ℕ → List Meeting
children_met k s scope n ms spot next =
    meetings k s (λ m t. scope) spot next (rank n) (below s n) ms

-- at the cases of a choice, each in a scope of its own
abbrev pub cases_met : Kind → Rows → NodeId → Members → Spot → ℕ → List Meeting
cases_met k s n ms spot next =
    meetings k s (case_scope s n (rank n) (below s n) ms) spot next (rank n) (below s n) ms

-- in an object of a node
abbrev pub inside_at : Kind → Rows → NodeId → Below
inside_at k s n = record
    { inside = λ at from inner ds. children_met k s inner n ds at from; cases = []; nodes = [] }

-- where an object is to be, on this way, and in it: in objects of these numbers, and in the entry
-- of this one
abbrev pub object_at : Kind → Rows → NodeId → Option ℕ → Trail → List ℕ → ℕ → ℕ → Data
    → List Meeting
object_at k s n item here outer entry next d =
    object_met n item (below s n)
    (record { path = places s here; around = next ∷ outer; entry = entry }) next d
    (inside_at k s n)

abbrev pub container_at : Kind → Rows → RuleScope → NodeId → Option Data → Spot → ℕ → List Meeting
container_at k s scope n found spot next =
    container_met n (row_at s n).label (below s n) spot scope next found (inside_at k s n)

-- at entries of a list, after these
abbrev pub entries_at : Kind → Rows → NodeId → List Data → Items → Spot → ℕ → List Meeting
entries_at k s n before ds spot next =
    entries_met n (row_at s n).label (below s n) spot next before ds (inside_at k s n)

abbrev pub list_at : Kind → Rows → NodeId → Option Data → Spot → ℕ → List Meeting
list_at k s n found spot next = array_met found (λ ds. entries_at k s n [] ds spot next)

-- at items of a leaf-list, after these
abbrev pub items_at : Rows → NodeId → List Data → Items → Spot → ℕ → List Meeting
items_at s n before ds spot next = items_met n (row_at s n).label spot before ds

abbrev pub leaf_list_at : Rows → NodeId → Option Data → Spot → ℕ → List Meeting
leaf_list_at s n found spot next = array_met found (λ ds. items_at s n [] ds spot next)

-- at a leaf
abbrev pub leaf_at : Rows → NodeId → Option Data → Spot → ℕ → List Meeting
leaf_at s n found spot next = leaf_met n (row_at s n).label spot found

-- at a data node for which this is written, but for the node itself
abbrev pub data_met : Kind → Rows → RuleScope → NodeId → Option Data → Spot → ℕ → List Meeting
data_met k s scope n found spot next =
    if is_left (row_at s n).label.defined.kind scope found then []
    else kind_met (row_at s n).label.defined.kind n (row_at s n).label
    (below s n) spot scope next found (inside_at k s n)

-- the node itself
abbrev pub node_at : Rows → RuleScope → NodeId → Members → Spot → Node
node_at s scope n ms spot =
    record {
      node = n;
      label = (row_at s n).label;
      spot = spot;
      scope = scope;
      members = ms;
      kids = below s n;
    }

-- what is met, and after it the node
abbrev pub with_node : (Spot → ℕ → List Meeting) → (Spot → Node) → Spot → ℕ → List Meeting
with_node met_at node_of spot next = met_at spot next ++ at_node (node_of spot) ∷ []

-- ---- how a walk grows

-- what it has reported, found and counted
pub record ProgressView : Type 0 where
  pub faults : List Flaw
  pub found : Findings
  pub steps : ℕ

abbrev pub progress_view : Progress → ProgressView
progress_view p = record { faults = p.faults.items; found = p.found; steps = p.meter }

-- the number of the next object
abbrev pub next_of : ProgressView → ℕ
next_of t = length t.found.positions

-- what it gained by these meetings
pub record Grows (k : Kind) (s : Rows) (old new : ProgressView) (ms : List Meeting) : Type 0 where
  pub faults : new.faults ≡ old.faults ++ flat_map (faults_at k s) ms
  pub found : Finds old.found new.found (met_in s ms)
  pub steps : count_up new.steps ≡ count_up (old.steps + sum_by (work_at k s) ms)

-- by these meetings, and faults of the node's own after them
pub record GrowsWith (k : Kind) (s : Rows) (old new : ProgressView) (ms : List Meeting)
    (own : List Flaw) : Type 0 where
  pub faults : new.faults ≡ old.faults ++ (flat_map (faults_at k s) ms ++ own)
  pub found : Finds old.found new.found (met_in s ms)
  pub steps : count_up new.steps ≡ count_up (old.steps + sum_by (work_at k s) ms)

-- by these meetings, and by the node itself, whose visit is counted already
pub record Closes (k : Kind) (s : Rows) (old new : ProgressView) (ms : List Meeting)
    (m : Node) : Type 0 where
  pub faults : new.faults ≡ old.faults ++ flat_map (faults_at k s) (ms ++ at_node m ∷ [])
  pub found : Finds old.found new.found (met_in s (ms ++ at_node m ∷ []))
  pub steps : count_up new.steps ≡ count_up (old.steps + sum_by (work_at k s) ms)

-- on this way, in the object of this number
abbrev pub spot_at : Rows → Trail → ℕ → List ℕ → ℕ → Spot
spot_at s way position outer entry =
    record { path = places s way; around = position ∷ outer; entry = entry }

-- the members write this for the node
abbrev pub Writes : Rows → NodeId → Option Data → Members → Type 0
Writes s n found ms = get_member (row_at s n).label.member ms ≡ found

-- ---- parts of it

-- members that name no node
abbrev pub unknowns : List Place → Forest → Members → List Flaw
unknowns path ts ms =
    map (λ key. flaw Unknown (under path key)) (unknown_names (opened_trees ts) ms)

-- a node as its own faults are read: none of them asks what is around it
abbrev pub plain_at : Rows → RuleScope → NodeId → Trail → Node
plain_at s scope n way = node_at s scope n no_members (spot_at s way 0 [] 0)

-- what is found of a value that was read, in the object of this number
abbrev pub value_found : Rows → NodeId → ℕ → Option ℕ → Option Val → FindingsView
value_found s n position item v = record {
  kept = kept_if (is_target s.links n.0) n.0 position v;
  used = [];
  positions = [];
  notes = value_notes (link_in s.links n.0) position n.0 item v;
}

-- what is found of defaults that are in use, in the object of this number
abbrev pub defaults_found : Rows → NodeId → ℕ → List Val → FindingsView
defaults_found s n position vs = only_used (used_if (is_target s.links n.0) n.0 position vs)

-- what is found of a leaf or leaf-list that is empty: all its defaults, where they are in use
abbrev pub empty_found : Rows → RuleScope → NodeId → ℕ → FindingsView
empty_found s scope n position =
    defaults_found s n position (if uses_defaults scope then defaults_of (row_at s n).label else [])

-- a value that is written for a leaf, or for an item after these
abbrev pub written_at : Rows → NodeId → Option (List Data) → Data → Spot → WrittenValue
written_at s n before d spot =
    record { node = n; label = (row_at s n).label; spot = spot; before = before; found = d }
