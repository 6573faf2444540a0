use Rattle.std.proofs.Common.{arith}
use Rattle.std.proofs.lemmas.Option.{slice_get-get_or}
use Rattle.yv_link_scopes.specs.Views.{lent_in}
use Rattle.yv_expand_refines.specs.declared.targets.RefineTarget.{RefineTarget}
use Rattle.yv_expand_changes.proofs.RefineJudgements.{all_judged, one_judged}
use Rattle.yv_expand_changes.proofs.refusals.least_of.Goals as goal

pub loop-refine_target-preserved : goal.loop-refine_target-preserved
loop-refine_target-preserved c = λ spots targets tree item e there.
    let none : RefineTarget = record { refine = 0; path = 0 } in
    one_judged (lent_in c.args.rows.now) spots tree targets item c.args.ways.now c.args.refine_targets.now c.loop-refine_target.refine_target-index _ c.loop-refine_target.least c.refusal_of_refine.result c.lesser-least.result e there
    (slice_get-get_or c.args.refine_targets.now c.loop-refine_target.refine_target-index none c.loop-refine_target-test.true) c.lesser-least.ensures c.refusal_of_refine.ensures (c.loop-refine_target.invariant spots targets tree item e there)

pub returns : goal.returns
returns c = λ spots targets tree item e there.
    all_judged (lent_in c.args.rows.now) spots tree item targets c.args.refine_targets.now c.loop-refine_target.refine_target-index c.loop-refine_target.least (omega (arith, c.loop-refine_target-test.false, c.loop-refine_target.auto.refine_target-index-end))
    (c.loop-refine_target.invariant spots targets tree item e there)
