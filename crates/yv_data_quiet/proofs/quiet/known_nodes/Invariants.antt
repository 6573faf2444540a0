use Rattle.std.proofs.Common.{◌≡◌, length}
use Rattle.yv_data_quiet.specs.Quiet.{AreKnown}
use Rattle.yv_data_quiet.proofs.quiet.known_nodes.Given as goal

-- so many nodes are known
abbrev pub invariant-loop-index : goal.invariant-loop-index
invariant-loop-index l = record {
  many : length l.known.items ≡ l.index;
  known : AreKnown l.schema l.known.items;
}
