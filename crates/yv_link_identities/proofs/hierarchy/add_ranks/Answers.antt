use Rattle.std.proofs.Common.{refl}
use Rattle.std.proofs.lemmas.List.{take_more}
use Rattle.yv_link_identities.proofs.DerivationRanks.{ranks_more}
use Rattle.yv_link_identities.proofs.hierarchy.add_ranks.Goals as goal

pub loop-node-preserved : goal.loop-node-preserved
loop-node-preserved c = ranks_more _ _ _ _ _ _ _ _ c.loop-node.invariant (take_more _ _ 0 c.loop-node-test.true) refl c.in_ok-insert.ensures.updates
