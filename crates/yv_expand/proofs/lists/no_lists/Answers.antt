use Rattle.std.proofs.Common.{arith, ap, length, ◌∙◌}
use Rattle.yv_expand.proofs.Listing.{longer}
use Rattle.yv_expand.proofs.StatementPlaces.{empty_none, empty_more}
use Rattle.yv_expand.proofs.lists.no_lists.Goals as goal

pub loop-init : goal.loop-init
loop-init c = record { each = ap length c.in_ok-lists.ensures.items; none = empty_none _ c.in_ok-lists.ensures.items }

pub loop-preserved : goal.loop-preserved
loop-preserved c = record {
  each = ap length c.in_ok-push.ensures.items ∙ longer c.loop.lists.items _ ∙ omega (arith, c.loop.invariant.each);
  none = empty_more c.loop.lists.items c.push.new.self.items _ c.loop.invariant.none c.new.ensures.items c.in_ok-push.ensures.items;
}

pub returns : goal.returns
returns c = (omega (arith, c.loop.invariant.each, c.loop-test.false, c.loop.auto.counter-end), c.loop.invariant.none)
