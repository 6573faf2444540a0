use Rattle.std.proofs.Common.{◌∙◌, sym}
use Rattle.yv_tree.proofs.Ways.{step_taken}
use Rattle.yv_tree.proofs.way.steps_behind.Goals as goal

pub returns-then-is_step : goal.returns-then-is_step
returns-then-is_step c =
    step_taken c.args.above c.args.way.now c.in-Some.step.now c.in-Some.others.now c.args.node.now.label c.in-Some.ensures.cases.0 (sym c.is_step.ensures ∙ c.if-is_step.true)
