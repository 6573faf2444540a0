use Rattle.std.proofs.Common.{◌≡◌, map, take}
use Rattle.yv_expand_uses.specs.InnerLeadingPaths.{place_aim}
use Rattle.yv_expand_uses.proofs.leading_paths.place_aims.Given as goal

abbrev pub invariant-loop-refine_target : goal.invariant-loop-refine_target
invariant-loop-refine_target l = l.placed.items ≡ map (place_aim l.paths) (take l.refine_target-index l.refine_targets)
