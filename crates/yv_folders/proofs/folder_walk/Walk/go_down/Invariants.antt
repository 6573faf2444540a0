use Rattle.yv_folders.specs.InnerWalk.{Keeps}
use Rattle.yv_folders.proofs.folder_walk.Walk.go_down.Given as goal

abbrev pub invariant-loop-path : goal.invariant-loop-path
invariant-loop-path g l = Keeps l.fn.self l.self
