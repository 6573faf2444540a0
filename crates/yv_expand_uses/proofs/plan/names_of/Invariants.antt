use Rattle.std.proofs.Common.{◌≡◌, map, take}
use Rattle.yv_expand_uses.specs.Paths.{step_name}
use Rattle.yv_expand_uses.proofs.plan.names_of.Given as goal

abbrev pub invariant-loop-step : goal.invariant-loop-step
invariant-loop-step l = l.names.items ≡ map (step_name l.module_file) (take l.step-index l.steps)
