use Rattle.yv_base_graph.specs.InnerEdgeless.{AreNumbers}
use Rattle.yv_base_graph.proofs.edgeless.numbers.Given as goal

abbrev pub invariant-loop-number : goal.invariant-loop-number
invariant-loop-number l = AreNumbers l.number l.numbers.items
