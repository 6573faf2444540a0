use Rattle.yv_folders.specs.InnerWalk.{Keeps}
use Rattle.yv_folders.proofs.folder_walk.Walk.list.Given as goal

abbrev pub invariant-loop-entry : goal.invariant-loop-entry
invariant-loop-entry g l =
    (goal.iterator-loop-entry g).can_next l.entry-iterator
    × (goal.iterator-loop-entry g).is_finite l.entry-iterator × Keeps l.initial.self l.self
