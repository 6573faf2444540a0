use Rattle.std.proofs.Common.{◌≡◌, length}
use Rattle.yv_link_definitions.specs.InnerGraph.{HasNoEdge}
use Rattle.yv_link_definitions.proofs.pairs.no_steps.Given as goal

abbrev pub invariant-loop : goal.invariant-loop
invariant-loop l = record { each : length l.steps.items ≡ l.counter; none : HasNoEdge l.steps.items }
