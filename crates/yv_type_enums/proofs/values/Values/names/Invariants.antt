use Rattle.std.proofs.Common.{◌≡◌, ◌++◌, map}
use Rattle.yv_values.specs.Values.{texts}
use Rattle.yv_type_enums.proofs.values.Values.names.Given as goal

abbrev pub invariant-loop-name : goal.invariant-loop-name
invariant-loop-name l = texts l.names.items ++ map (λ k. k.now) l.name-iterator ≡ map (λ k. k.now) l.self.names.keys
