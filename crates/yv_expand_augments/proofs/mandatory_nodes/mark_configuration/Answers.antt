use Rattle.std.proofs.Common.{arith}
use Rattle.std.proofs.lemmas.Option.{slice_get-get_or}
use Rattle.yv_expand_augments.specs.MandatoryNodes.{told_in}
use Rattle.yv_expand_augments.specs.InnerMandatoryNodes.{around_marks}
use Rattle.yv_base_graph.specs.Marks.{is_marked}
use Rattle.yv_expand_augments.proofs.ItemConfiguration.{configured_done, configured_more, shallow_fits}
use Rattle.yv_expand_augments.proofs.mandatory_nodes.mark_configuration.Goals as goal

pub loop-row-preserved : goal.loop-row-preserved
loop-row-preserved c = λ shallow. (
    let at = slice_get-get_or c.args.tree.now c.loop-row.row-index _ c.loop-row-test.true in
    let around = around_marks (is_marked c.loop-row.states.items) (is_marked c.loop-row.operations.items) in
    let fits = shallow_fits c.args.tree.now c.loop-row.row-index _ shallow (omega (arith, c.loop-row-test.true)) at in
    configured_more c.args.spots.now (told_in c.args.marks.now) c.args.tree.now c.loop-row.row-index _ c.next_depth-next.result
    around (around_marks (is_marked c.enter.new.states.items) (is_marked c.enter.new.operations.items)) c.in_ok-mark.mark c.loop-row.places.items c.push.new.self.items _
    at (c.next_depth-next.ensures fits) c.in_ok-mark.ensures.value c.in_ok-mark.ensures.around
    c.in_ok-push.ensures.items (c.loop-row.invariant shallow))

pub returns : goal.returns
returns c = λ shallow.
    configured_done c.args.spots.now (told_in c.args.marks.now) c.args.tree.now c.loop-row.row-index
    (around_marks (is_marked c.loop-row.states.items) (is_marked c.loop-row.operations.items)) c.loop-row.places.items _ c.loop-row-test.false (c.loop-row.invariant shallow)
