use Rattle.std.proofs.Common.{◌≡◌, drop, map}
use Rattle.std.specs.Prelude.{string_bytes}
use Rattle.yv_tree.specs.DrawnModules.{modules_named}
use Rattle.yv_tree.specs.InnerModules.{behind_found}
use Rattle.yv_tree.proofs.diagrams.all_named.Given as goal

-- with the modules of the names that are left, these are all
abbrev pub invariant-loop-name : goal.invariant-loop-name
invariant-loop-name l =
    behind_found (map (λ m. m.now) l.found.items) (modules_named l.modules (map string_bytes (drop l.name-index l.names))) ≡ modules_named l.modules (map string_bytes l.names)
