use Rattle.std.proofs.Common.{◌≡◌, length}
use Rattle.yv_type_identities.specs.InnerRuns.{AreRuns}
use Rattle.yv_type_identities.proofs.runs.runs.Given as goal

abbrev pub invariant-loop-node : goal.invariant-loop-node
invariant-loop-node l = record {
  each : length l.found.items ≡ l.node-index;
  runs : AreRuns l.graph l.ranks l.order l.found.items;
}
