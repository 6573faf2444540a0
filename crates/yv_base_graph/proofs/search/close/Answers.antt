use Rattle.std.proofs.Common.{refl}
use Rattle.std.proofs.lemmas.List.{take_more}
use Rattle.yv_base_graph.proofs.Among.{closes_more}
use Rattle.yv_base_graph.proofs.search.close.Goals as goal

pub loop-node-preserved : goal.loop-node-preserved
loop-node-preserved c = closes_more _ _ _ _ _ _ _ c.loop-node.invariant (c.requires c.loop-node.node-index 0 c.loop-node-test.true) (take_more _ _ 0 c.loop-node-test.true) refl
