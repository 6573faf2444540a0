use Rattle.std.proofs.Common.{arith, ap, length, ◌∙◌}
use Rattle.yv_link_identities.proofs.PassingNumbers.{longer}
use Rattle.yv_link_identities.proofs.BaseGraph.{no_edge_none, no_edge_more}
use Rattle.yv_link_identities.proofs.pairs.no_bases.Goals as goal

pub loop-init : goal.loop-init
loop-init c = record { each = ap length c.new-bases.ensures.items; none = no_edge_none _ c.new-bases.ensures.items }

pub loop-preserved : goal.loop-preserved
loop-preserved c = record {
  each = ap length c.in_ok-push.ensures.items ∙ longer c.loop.bases.items _ ∙ omega (arith, c.loop.invariant.each);
  none = no_edge_more c.loop.bases.items c.push.new.self.items _ c.loop.invariant.none c.new.ensures.items c.in_ok-push.ensures.items;
}

pub returns : goal.returns
returns c = (omega (arith, c.loop.invariant.each, c.loop-test.false, c.loop.auto.counter-end), c.loop.invariant.none)
