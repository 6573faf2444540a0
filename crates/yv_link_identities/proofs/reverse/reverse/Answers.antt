use Rattle.std.proofs.Common.{refl, arith}
use Rattle.yv_link_identities.proofs.GraphReversal.{reversing_none, reversing_more, reversing_all}
use Rattle.yv_link_identities.proofs.reverse.reverse.Goals as goal

pub loop-node-init : goal.loop-node-init
loop-node-init c = reversing_none _ _ _ refl c.in_ok-back.ensures

pub loop-node-preserved : goal.loop-node-preserved
loop-node-preserved c =
    reversing_more _ _ _ _ c.index-graph-node.result _ c.loop-node.invariant c.loop-node-test.true c.index-graph-node.is c.deref.ensures.value c.in_ok-add_edges.ensures

pub returns : goal.returns
returns c = reversing_all _ _ _ (omega (arith, c.loop-node-test.false)) c.loop-node.invariant
