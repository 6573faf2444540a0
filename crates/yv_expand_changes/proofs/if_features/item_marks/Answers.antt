use Rattle.std.proofs.Common.{◌∙◌}
use Rattle.std.proofs.lemmas.Option.{slice_get-get_or}
use Rattle.yv_expand_changes.proofs.RefineSequences.{marks_next}
use Rattle.yv_expand_changes.proofs.if_features.item_marks.Goals as goal

pub loop-number-preserved : goal.loop-number-preserved
loop-number-preserved c =
    marks_next c.args.statements.now c.args.spots.now c.args.changes.now c.deref.result.now c.sequence.result c.loop-number.number _ c.is_on_with.result
    c.loop-number.marks.items c.push.new.self.items (slice_get-get_or c.args.spots.now c.loop-number.number _ c.loop-number-test.true) c.is_on_with.ensures
    (c.deref.ensures.value ∙ c.in_ok-known.ensures) c.sequence.ensures.place c.in_ok-push.ensures.items c.loop-number.invariant
