use Rattle.std.proofs.Common.{◌≡◌, map, take}
use Rattle.yv_node_leafrefs.specs.InnerNames.{told_of, stride_of}
use Rattle.yv_node_leafrefs.proofs.strides.strides_of.Given as goal

abbrev pub invariant-loop-step : goal.invariant-loop-step
invariant-loop-step l = l.strides.items ≡ map (stride_of (told_of l.names)) (take l.step-index l.steps)
