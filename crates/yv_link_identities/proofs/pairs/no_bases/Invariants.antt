use Rattle.std.proofs.Common.{◌≡◌, length}
use Rattle.yv_link_identities.specs.InnerPairs.{HasNoEdge}
use Rattle.yv_link_identities.proofs.pairs.no_bases.Given as goal

abbrev pub invariant-loop : goal.invariant-loop
invariant-loop l = record { each : length l.bases.items ≡ l.counter; none : HasNoEdge l.bases.items }
