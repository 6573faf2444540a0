use Rattle.std.proofs.Common.{◌≡◌, None, drop}
use Rattle.yv_expand_changes.specs.InnerFirstPaths.{are_rising}
use Rattle.yv_expand_changes.proofs.ways.are_rising.Given as goal

-- what is left decides
abbrev pub invariant-loop-target : goal.invariant-loop-target
invariant-loop-target l = are_rising None l.targets ≡ are_rising l.last (drop l.target-index l.targets)
