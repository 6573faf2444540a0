use Rattle.std.proofs.Common.{ℕ, ◌+◌, ◌-◌, ◌/◌, sym, ◌∙◌, arith}
use Rattle.yv_link_definitions.proofs.PlaceSearch.{above_read, below_read}
use Rattle.yv_link_definitions.proofs.place.count_before.Goals as goal

pub loop-low-preserved-then-is_before : goal.loop-low-preserved-then-is_before
loop-low-preserved-then-is_before c =
    let middle : ℕ = c.loop-low.low + (c.loop-low.high - c.loop-low.low) / 2 in
    record {
      order = omega arith;
      within = c.loop-low.invariant.within;
      below = below_read c.args.places.now c.requires c.args.file c.args.offset middle _ (omega arith) (sym c.is_before.ensures ∙ c.if-is_before.true);
      above = c.loop-low.invariant.above;
    }

pub loop-low-preserved : goal.loop-low-preserved
loop-low-preserved c =
    let middle : ℕ = c.loop-low.low + (c.loop-low.high - c.loop-low.low) / 2 in
    record {
      order = omega arith;
      within = omega arith;
      below = c.loop-low.invariant.below;
      above = above_read c.args.places.now c.requires c.args.file c.args.offset middle _ (omega arith) (sym c.is_before.ensures ∙ c.if-is_before.false);
    }
