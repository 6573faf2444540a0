use Rattle.std.proofs.Common.{◌≡◌, drop, map}
use Rattle.yv_values.specs.Scopes.{module_of, binding_of}
use Rattle.yv_values.proofs.scope.module_of.Given as goal

abbrev pub invariant-loop-name : goal.invariant-loop-name
invariant-loop-name l = module_of (map binding_of (drop l.name-index l.prefixes)) l.prefix ≡ module_of (map binding_of l.prefixes) l.prefix
