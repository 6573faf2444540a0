use Rattle.std.proofs.Common.{◌≡◌, ◌↔◌, ◌<◌, ℕ, Some, None, length, slice_index_or}
use Rattle.yv_nodes.specs.Link as spec
use Rattle.yv_node_leafrefs.specs.Schema.{leafref_of_row}
use Rattle.yv_node_leafrefs.specs.Links.{IsLinkOf}
use Rattle.yv_node_leafrefs.proofs.all_links.links.Given as goal

abbrev pub invariant-loop-number : goal.invariant-loop-number
invariant-loop-number l =
    (length l.links.items ≡ l.number)
    × ((n : ℕ) (link : spec.Link) → n < l.number
    → (slice_index_or l.links.items n None ≡ Some link) ↔ IsLinkOf (record { rows = l.nodes.rows; says = leafref_of_row l.of l.leafrefs }) n link)
