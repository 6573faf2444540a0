use Rattle.std.proofs.Common.{◌≡◌, length}
use Rattle.yv_link_identities.specs.InnerPairs.{HasNoEdge}
use Rattle.yv_type_identities.proofs.graph.no_edges.Given as goal

abbrev pub invariant-loop : goal.invariant-loop
invariant-loop l = record { each : length l.graph.items ≡ l.counter; none : HasNoEdge l.graph.items }
