use Rattle.std.proofs.Common.{◌≡◌, ◌↔◌, ℕ, List, Option, map, drop}
use Rattle.yv_node_content.specs.Steps.{Step}
use Rattle.yv_node_leafrefs.specs.Ways.{Leads}
use Rattle.yv_node_leafrefs.specs.InnerNames.{told_of, stride_of}
use Rattle.yv_node_leafrefs.specs.InnerOutline.{rows_in}
use Rattle.yv_node_leafrefs.specs.InnerIndex.{IsDraft}
use Rattle.yv_node_leafrefs.specs.declared.outline.Outline.{Outline}
use Rattle.yv_node_leafrefs.proofs.walk.walk.Given as goal

abbrev pub invariant-loop-stride : goal.invariant-loop-stride
invariant-loop-stride l =
    (o : Outline) (steps : List (Option Step)) → IsDraft o l.draft → l.strides ≡ map (stride_of (told_of l.draft.names)) steps
    → (b : Option ℕ) → Leads (rows_in o) l.own (drop l.stride-index steps) l.place b ↔ Leads (rows_in o) l.own steps l.fn.start b
