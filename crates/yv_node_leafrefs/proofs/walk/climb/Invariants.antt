use Rattle.std.proofs.Common.{◌≡◌, ◌↔◌, ◌<◌, ◌-◌, ℕ, Option, Some, length}
use Rattle.yv_node_leafrefs.specs.Ways.{Climbs}
use Rattle.yv_node_leafrefs.specs.InnerOutline.{rows_in}
use Rattle.yv_node_leafrefs.specs.InnerIndex.{IsDraft}
use Rattle.yv_node_leafrefs.specs.declared.outline.Outline.{Outline}
use Rattle.yv_node_leafrefs.proofs.walk.climb.Given as goal

abbrev pub invariant-loop : goal.invariant-loop
invariant-loop l =
    ((p : ℕ) → l.place ≡ Some p → p < length l.draft.above.items)
    × ((o : Outline) → IsDraft o l.draft → (b : Option ℕ) → Climbs (rows_in o) (l.climbs - l.counter) l.place b ↔ Climbs (rows_in o) l.climbs (Some l.number) b)
