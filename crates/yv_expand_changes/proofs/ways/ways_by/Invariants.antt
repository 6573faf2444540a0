use Rattle.std.proofs.Common.{◌≡◌, map, take}
use Rattle.yv_expand_changes.specs.InnerAlike.{way_of_target}
use Rattle.yv_expand_changes.proofs.ways.ways_by.Given as goal

abbrev pub invariant-loop-path : goal.invariant-loop-path
invariant-loop-path l = l.ways.items ≡ map (way_of_target l.spots l.targets) (take l.path l.targets)
