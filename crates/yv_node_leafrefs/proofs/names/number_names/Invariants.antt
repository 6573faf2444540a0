use Rattle.std.proofs.Common.{◌≡◌, length}
use Rattle.yv_node_leafrefs.specs.InnerNames.{told_of, AreNumbers, AreNumbered}
use Rattle.yv_node_leafrefs.proofs.names.number_names.Given as goal

abbrev pub invariant-loop-number : goal.invariant-loop-number
invariant-loop-number l = record {
  each : length l.numbers.items ≡ l.number;
  names : AreNumbered l.nodes l.statements l.number l.names;
  numbers : AreNumbers l.nodes l.number (told_of l.names) l.numbers.items;
}
