use Rattle.std.proofs.Common.{◌≡◌, ◌↔◌, ◌<◌, ℕ, Some, None, length, slice_index_or}
use Rattle.yv_node_leafrefs.specs.Targets.{RefersTo}
use Rattle.yv_node_leafrefs.specs.InnerOutline.{schema_in}
use Rattle.yv_node_leafrefs.proofs.targets.targets.Given as goal

abbrev pub invariant-loop-number : goal.invariant-loop-number
invariant-loop-number l =
    (length l.targets.items ≡ l.number) × ((c x : ℕ) → c < l.number → (slice_index_or l.targets.items c None ≡ Some x) ↔ RefersTo (schema_in l.outline) c x)
