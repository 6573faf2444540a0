use Rattle.std.proofs.Common.{refl, arith}
use Rattle.std.proofs.lemmas.List.{take_more}
use Rattle.yv_link_identities.proofs.GraphReversal.{adds_more}
use Rattle.yv_link_identities.proofs.reverse.add_edges.Goals as goal

pub loop-from-preserved : goal.loop-from-preserved
loop-from-preserved c =
    adds_more _ _ _ _ _ _ _ c.index_mut.result.now _ c.loop-from.invariant (take_more _ _ 0 c.loop-from-test.true) (omega (arith, c.requires c.loop-from.from-index 0 c.loop-from-test.true, c.loop-from.invariant.each)) c.index_mut.ensures.value c.in_ok-push.ensures.items refl
