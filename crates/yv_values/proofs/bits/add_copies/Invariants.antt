use Rattle.std.proofs.Common.{◌≡◌, ◌++◌, drop}
use Rattle.yv_values.specs.Values.{texts}
use Rattle.yv_values.proofs.bits.add_copies.Given as goal

abbrev pub invariant-loop-name : goal.invariant-loop-name
invariant-loop-name l = texts l.found.items ++ texts (drop l.name-index l.names) ≡ texts l.fn.found.items ++ texts l.names
