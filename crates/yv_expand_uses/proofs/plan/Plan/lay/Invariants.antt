use Rattle.std.proofs.Common.{◌≡◌, drop, length}
use Rattle.yv_link_scopes.specs.Views.{rows_in}
use Rattle.yv_expand_uses.specs.Spots.{layout_of, laid_from}
use Rattle.yv_expand_uses.specs.InnerLayout.{AreNumbered}
use Rattle.yv_expand_uses.specs.InnerPlan.{whole_in}
use Rattle.yv_expand_uses.proofs.plan.Plan.lay.Given as goal

abbrev pub invariant-loop-item : goal.invariant-loop-item
invariant-loop-item l = record {
  laid : laid_from (whole_in l.self) (drop l.item-index l.items) (record { spots = l.spots.items; copies = length l.copies.items }) ≡ layout_of (whole_in l.self) l.items;
  few : AreNumbered (rows_in l.self.rows.now) l.spots.items;
}
