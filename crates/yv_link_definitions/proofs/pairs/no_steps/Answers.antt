use Rattle.std.proofs.Common.{arith, ap, length, ◌∙◌}
use Rattle.yv_link_definitions.proofs.DefinitionGraph.{longer}
use Rattle.yv_link_definitions.proofs.DefinitionGraph.{no_edge_none, no_edge_more}
use Rattle.yv_link_definitions.proofs.pairs.no_steps.Goals as goal

pub loop-init : goal.loop-init
loop-init c = record { each = ap length c.in_ok-steps.ensures.items; none = no_edge_none _ c.in_ok-steps.ensures.items }

pub loop-preserved : goal.loop-preserved
loop-preserved c = record {
  each = ap length c.in_ok-push.ensures.items ∙ longer c.loop.steps.items _ ∙ omega (arith, c.loop.invariant.each);
  none = no_edge_more c.loop.steps.items c.push.new.self.items _ c.loop.invariant.none c.new.ensures.items c.in_ok-push.ensures.items;
}

pub returns : goal.returns
returns c = (omega (arith, c.loop.invariant.each, c.loop-test.false, c.loop.auto.counter-end), c.loop.invariant.none)
