use Rattle.std.proofs.Common.{◌≡◌, ◌||◌, ℕ, List, Option, drop}
use Rattle.yv_node_content.specs.Steps.{has_step}
use Rattle.yv_node_content.specs.InnerNames.{has}
use Rattle.yv_node_content.proofs.keys.set_of.Given as goal

-- with the steps behind, they are all
abbrev pub invariant-loop-step : goal.invariant-loop-step
invariant-loop-step l = (module_file : Option ℕ) (name : List ℕ) → (has l.set module_file name || has_step module_file name (drop l.step-index l.steps)) ≡ has_step module_file name l.steps
