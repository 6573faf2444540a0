use Rattle.std.proofs.Common.{◌∙◌, map, sym}
use Rattle.yv_base_numbers.specs.RestrictedIntervals.{interval}
use Rattle.yv_base_numbers.proofs.Along.{go_lower, go_higher, parted}
use Rattle.yv_base_numbers.proofs.restriction_order.lies_in_any.Goals as goal

pub loop-lower-preserved-then-is_at_most : goal.loop-lower-preserved-then-is_at_most
loop-lower-preserved-then-is_at_most c =
    let cut = parted interval c.loop-lower.rest.now c.in-Some.lower.now c.in-Some.higher.now c.in-Some.middle c.in-Some.ensures.some in
    let more = go_lower (interval c.args.span) (map interval c.loop-lower.rest.now) (map interval c.in-Some.lower.now) (interval c.in-Some.middle) (map interval c.in-Some.higher.now) cut c.loop-lower.invariant.whole (sym c.if-lies_in.ensures) (sym c.if-is_at_most.ensures) in
    record {
      same = more.0 ∙ c.loop-lower.invariant.same;
      whole = more.1;
    }

pub loop-lower-preserved : goal.loop-lower-preserved
loop-lower-preserved c =
    let cut = parted interval c.loop-lower.rest.now c.in-Some.lower.now c.in-Some.higher.now c.in-Some.middle c.in-Some.ensures.some in
    let more = go_higher (interval c.args.span) (map interval c.loop-lower.rest.now) (map interval c.in-Some.lower.now) (interval c.in-Some.middle) (map interval c.in-Some.higher.now) cut c.loop-lower.invariant.whole (sym c.if-lies_in.ensures) c.requires.part (sym c.if-is_at_most.ensures) in
    record {
      same = more.0 ∙ c.loop-lower.invariant.same;
      whole = more.1;
    }
