use Rattle.std.proofs.Common.{◌≡◌, map, take}
use Rattle.yv_tree.specs.DrawnModules.{module_text}
use Rattle.yv_tree.proofs.diagrams.TreeDiagrams.ready.Given as goal

-- the diagrams of the first modules are ready
abbrev pub invariant-loop-shown : goal.invariant-loop-shown
invariant-loop-shown l = l.diagrams.items ≡ map (module_text l.schema l.drawing) (map (λ m. m.now) (take l.shown-index l.modules))
