-- Only private clauses cite this: the nodes below one by module and name.
use Rattle.std.specs.Prelude.{◌≡◌, ◌==◌, ℕ, List, ◌&&◌, Option, Some, None, if◌then◌else◌}
use Rattle.std.specs.List.{find}
use Rattle.std.specs.Str.{bytes_eq}
use Rattle.std.specs.Borrow.{Bor}
use Rattle.std.specs.Ordering.{nat_cmp, ordering_then}
use Rattle.std.specs.Cmp.Lexicographic.{slice_cmp}
use Rattle.std.specs.BTreeMap.{BTreeMap, get_by}
use Rattle.yv_nodes.specs.declared.node.NodeId.{NodeId}
use Rattle.yv_nodes.specs.Rows.{Row}
use Rattle.yv_node_keys.specs.Numbers.{is_called_at, is_some_called}
use Rattle.yv_node_keys.specs.declared.names.ChildNames.{ChildNames}

-- a number for each module and name
abbrev pub NameNumbers : Type 0
NameNumbers = (module_file : ℕ) → (name : List ℕ) → Option NodeId

abbrev pub lookup_in : BTreeMap (Bor (List ℕ) × ℕ) NodeId → NameNumbers
lookup_in m module_file name =
    get_by (λ k. ordering_then (slice_cmp nat_cmp name k.0.now) (nat_cmp module_file k.1)) m

abbrev pub told_of : ChildNames → NameNumbers
told_of names = lookup_in names.map

-- what is known of a module and a name once such a node was put before the others
abbrev pub told_with : NameNumbers → (module_file : ℕ) → (name : List ℕ) → NodeId → NameNumbers
told_with told h n number module_file name =
    if h == module_file && bytes_eq n name then Some number else told module_file name

-- what is known once the node of a row, which is before the others, was met
abbrev pub told_before : NameNumbers → Option Row → NodeId → NameNumbers
told_before told row number module_file name =
    if is_some_called module_file name row then Some number else told module_file name

-- these tell of each module and name the first of these nodes
abbrev pub AreNames : List Row → List NodeId → NameNumbers → Type 0
AreNames rows children told = (module_file : ℕ) (name : List ℕ)
    → told module_file name ≡ find (is_called_at rows module_file name) children

-- the same of names that may be kept
abbrev pub AreNamesIfKept : List Row → List NodeId → Option ChildNames → Type 0
AreNamesIfKept rows children None = Unit {0}
AreNamesIfKept rows children (Some names) = AreNames rows children (told_of names)
