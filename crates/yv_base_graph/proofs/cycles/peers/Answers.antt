use Rattle.std.proofs.Common.{arith}
use Rattle.yv_base_graph.proofs.Peers.{marking_step, marking_end}
use Rattle.yv_base_graph.proofs.cycles.peers.Goals as goal

pub loop-node-preserved : goal.loop-node-preserved
loop-node-preserved c = marking_step _ _ _ _ _ _ _ _ _ _ c.requires.each c.loop-node.invariant c.loop-node-test.true c.index-graph-node.is c.deref.ensures.value c.deref-in-loop-node.ensures.value c.index.ensures c.has_rank-mark.ensures c.in_ok-push.ensures.items

pub returns : goal.returns
returns c = marking_end _ _ _ _ (omega (arith, c.loop-node-test.false, c.loop-node.auto.node-end)) c.loop-node.invariant
