use Rattle.std.proofs.Common.{◌≡◌, map, take}
use Rattle.yv_node_leafrefs.specs.InnerNames.{told_of, stride_of}
use Rattle.yv_node_leafrefs.proofs.strides.all_strides.Given as goal

abbrev pub invariant-loop-leafref : goal.invariant-loop-leafref
invariant-loop-leafref l = map (λ strides. strides.items) l.all.items ≡ map (λ ref. map (stride_of (told_of l.names)) ref.steps) (take l.leafref-index l.leafrefs)
