-- Only private clauses cite this: what is kept of the nodes below a node.
use Rattle.std.specs.Prelude.{◌≡◌, ◌≤◌, ℕ, Bool, false, List, Option, Some, None, slice_get, if◌then◌else◌}
use Rattle.std.specs.Option.{unwrap_or}
use Rattle.std.specs.List.{find}
use Rattle.yv_text_statement.specs.TextInFile.{TextInFile}
use Rattle.yv_node_content.specs.Kinds.{is_case}
use Rattle.yv_nodes.specs.declared.node.NodeId.{NodeId}
use Rattle.yv_nodes.specs.Rows.{Row}
use Rattle.yv_nodes.specs.Tree.{Forest}
use Rattle.yv_nodes.specs.Places.{Place, places}
use Rattle.yv_node_checks.specs.Mandatory.{has_mandatory, is_needed}
use Rattle.yv_nodes.specs.Children.{is_called}

abbrev pub kept_at : List Bool → NodeId → Bool
kept_at below c = unwrap_or (slice_get below c.0) false

abbrev pub is_some_needed : Option Row → Bool → Bool
is_some_needed None below = false
is_some_needed (Some r) below = is_needed r.label below

-- the node of a number is mandatory
abbrev pub is_needed_at : List Row → List Bool → NodeId → Bool
is_needed_at rows below c = is_some_needed (slice_get rows c.0) (kept_at below c)

abbrev pub is_some_named : Option Row → (module_file : ℕ) → (name : List ℕ) → Bool
is_some_named None module_file name = false
is_some_named (Some r) module_file name = is_called module_file name r.label

-- the node of a number has this module and this name
abbrev pub is_named_at : List Row → (module_file : ℕ) → (name : List ℕ) → NodeId → Bool
is_named_at rows module_file name c = is_some_named (slice_get rows c.0) module_file name

-- of these nodes the first that has this module and this name
abbrev pub case_among : List Row → (module_file : ℕ) → Option TextInFile → List NodeId
    → Option NodeId
case_among rows module_file None cs = None
case_among rows module_file (Some written) cs = find (is_named_at rows module_file written.text) cs

abbrev pub is_some_undone : Option Row → Bool → Bool
is_some_undone None below = false
is_some_undone (Some r) below =
    if is_case r.label.defined.kind then below else is_needed r.label below

-- a mandatory node is directly under the case of a number
abbrev pub is_undone_at : List Row → List Bool → Option NodeId → Bool
is_undone_at rows below None = false
is_undone_at rows below (Some c) = is_some_undone (slice_get rows c.0) (kept_at below c)

-- of the nodes from number n on it is kept whether a mandatory node is directly under them
abbrev pub AreBelow : Forest → List Bool → ℕ → Type 0
AreBelow ts below n = (k : ℕ) (p : Place) → n ≤ k → slice_get (places ts) k ≡ Some p
    → slice_get below k ≡ Some (has_mandatory p.kids)
