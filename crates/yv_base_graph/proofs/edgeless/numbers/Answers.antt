use Rattle.std.proofs.Common.{arith}
use Rattle.yv_base_graph.proofs.NoEdges.{numbers_none, numbers_more, numbers_whole}
use Rattle.yv_base_graph.proofs.edgeless.numbers.Goals as goal

pub loop-number-init : goal.loop-number-init
loop-number-init c = numbers_none _ c.in_ok-numbers.ensures.items

pub loop-number-preserved : goal.loop-number-preserved
loop-number-preserved c = numbers_more _ _ _ c.loop-number.invariant c.in_ok-push.ensures.items

pub returns : goal.returns
returns c = numbers_whole _ _ _ (omega (arith, c.loop-number-test.false, c.loop-number.auto.number-end)) c.loop-number.invariant
