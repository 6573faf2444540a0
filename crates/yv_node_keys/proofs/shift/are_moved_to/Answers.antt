use Rattle.std.proofs.Common.{◌∙◌, ◌<◌, arith, ap, sym, subst, length, map}
use Rattle.std.proofs.lemmas.List.{take_all}
use Rattle.yv_node_keys.specs.InnerShifts.{AreInside, moved_id}
use Rattle.yv_node_keys.proofs.PathShifts.{next_inside, next_moved}
use Rattle.yv_node_keys.proofs.shift.are_moved_to.Goals as goal

pub loop-place-preserved : goal.loop-place-preserved
loop-place-preserved c =
    let n = c.loop-place.place in
    let beside : n < length c.args.others.now = omega (arith, c.loop-place.invariant.each, c.loop-place-test.true) in
    record {
      each = c.loop-place.invariant.each;
      inside = next_inside c.args.shift c.args.ones.now n _ c.loop-place-test.true c.loop-place.invariant.inside (c.is_moved_to.ensures.inside c.if-not-is_moved_to.false);
      are = next_moved c.args.shift.by c.args.ones.now c.args.others.now n _ _ c.loop-place-test.true beside c.loop-place.invariant.are (c.is_moved_to.ensures.is c.if-not-is_moved_to.false);
    }

pub returns-clause-inside : goal.returns-clause-inside
returns-clause-inside c = λ e. subst (AreInside c.args.shift) (take_all c.loop-place.place c.args.ones.now c.loop-place-test.false) c.loop-place.invariant.inside

pub returns-clause-are : goal.returns-clause-are
returns-clause-are c = λ e.
    sym (take_all c.loop-place.place c.args.others.now (omega (arith, c.loop-place.invariant.each, c.loop-place-test.false)))
    ∙ c.loop-place.invariant.are ∙ ap (map (moved_id c.args.shift.by)) (take_all c.loop-place.place c.args.ones.now c.loop-place-test.false)
