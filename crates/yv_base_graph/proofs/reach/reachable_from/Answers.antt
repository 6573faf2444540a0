use Rattle.std.proofs.Common.{arith, refl}
use Rattle.yv_base_graph.proofs.Reachability.{reached_init, reached_next, reaching_end}
use Rattle.yv_base_graph.proofs.reach.reachable_from.Goals as goal

pub loop-next-init : goal.loop-next-init
loop-next-init c = reached_init _ _ _ _ _ _ _ _ _ c.requires.graph c.requires.from c.index-graph-from.is c.deref.ensures.value (c.in_ok-marks.ensures.items_if_clones_equal (λ y e. e)) refl c.new-found.ensures.items c.in_ok-mark_row.ensures

pub loop-next-preserved : goal.loop-next-preserved
loop-next-preserved c = reached_next _ _ _ _ _ _ _ _ _ _ c.requires.graph c.loop-next.invariant (omega (arith, c.loop-next-test.true, c.len.ensures)) c.index-node.ensures c.index-graph-node.is c.deref-in-loop-next.ensures.value c.in_ok-mark_row-2.ensures

pub returns : goal.returns
returns c = record { exact = reaching_end _ _ _ _ _ c.loop-next.invariant (omega (arith, c.loop-next-test.false, c.len.ensures)) }
