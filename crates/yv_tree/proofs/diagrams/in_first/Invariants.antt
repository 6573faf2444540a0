use Rattle.std.proofs.Common.{◌≡◌, ◌++◌, drop, map}
use Rattle.std.specs.Prelude.{filter}
use Rattle.yv_tree.specs.DrawnModules.{is_in_first}
use Rattle.yv_tree.proofs.diagrams.in_first.Given as goal

-- with those among the modules that are left, these are all
abbrev pub invariant-loop-known : goal.invariant-loop-known
invariant-loop-known l = map (λ m. m.now) l.found.items ++ filter (is_in_first l.files) (drop l.known-index l.modules) ≡ filter (is_in_first l.files) l.modules
