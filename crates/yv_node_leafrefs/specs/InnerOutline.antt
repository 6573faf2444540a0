-- Only private clauses cite this: what is read of nodes and leafrefs.
use Rattle.std.specs.Prelude.{◌≡◌, ◌↔◌, ℕ, ◌<◌, Bool, true, false, List, Option, Some, None, slice_get}
use Rattle.std.specs.List.{slice_index_or}
use Rattle.yv_nodes.specs.Rows.{Row}
use Rattle.yv_node_leafrefs.specs.Schema.{Referral, Schema, leafref_of_row}
use Rattle.yv_node_leafrefs.specs.Above.{parent_of, Closest, IsInside}
use Rattle.yv_node_leafrefs.specs.declared.outline.Outline.{Outline}

abbrev pub rows_in : Outline → List Row
rows_in o = o.nodes.now

abbrev pub leafrefs_in : Outline → List Referral
leafrefs_in o = o.leafrefs.now

abbrev pub schema_in : Outline → Schema
schema_in o = record { rows = o.nodes.now; says = leafref_of_row o.of.now o.leafrefs.now }

-- for each of the first nodes the place above it
abbrev pub AreAbove : List Row → ℕ → List (Option ℕ) → Type 0
AreAbove rows n above = (c : ℕ) (r : Row) → c < n → slice_get rows c ≡ Some r
    → Closest rows (parent_of r) (slice_index_or above c None)

-- for each of the first nodes whether it is inside an operation or a notification
abbrev pub AreInside : List Row → ℕ → List Bool → Type 0
AreInside rows n inside =
    (c : ℕ) → c < n → (slice_index_or inside c false ≡ true) ↔ IsInside rows (Some c)
