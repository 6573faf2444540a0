use Rattle.std.proofs.Common.{◌≡◌, drop}
use Rattle.yv_tree.specs.Diagram.{module_in}
use Rattle.yv_tree.proofs.tree_diagram.module_named.Given as goal

-- the module stands among those that are left
abbrev pub invariant-loop-known : goal.invariant-loop-known
invariant-loop-known l = module_in (drop l.known-index l.modules) l.name ≡ module_in l.modules l.name
