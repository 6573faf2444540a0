use Rattle.std.proofs.Common.{arith}
use Rattle.yv_node_keys.specs.InnerCounterparts.{no_pairs}
use Rattle.yv_node_keys.proofs.NodeCounterparts.{pairs_next}
use Rattle.yv_node_keys.proofs.counterparts.count_pairs.Goals as goal

pub loop-count-init : goal.loop-count-init
loop-count-init c = record { ones = omega arith; others = omega arith; pairs = no_pairs }

pub loop-count-preserved : goal.loop-count-preserved
loop-count-preserved c = record {
  ones = omega arith;
  others = omega arith;
  pairs = pairs_next c.args.nodes.now.rows c.args.ones.now c.args.others.now c.loop-count.count _ _ c.loop-count-test.true c.if-count-others.true c.loop-count.invariant.pairs
      (c.are_called_alike.ensures c.if-not-are_called_alike.false);
}
