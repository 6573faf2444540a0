use Rattle.std.proofs.Common.{take}
use Rattle.yv_link_identities.specs.InnerWays.{AddsRanks}
use Rattle.yv_link_identities.proofs.hierarchy.add_ranks.Given as goal

abbrev pub invariant-loop-node : goal.invariant-loop-node
invariant-loop-node l = AddsRanks l.ranks (take l.node-index l.nodes) l.initial.pending l.pending
