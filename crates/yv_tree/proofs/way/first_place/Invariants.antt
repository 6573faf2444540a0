use Rattle.std.proofs.Common.{◌≡◌, drop}
use Rattle.yv_nodes.specs.Rows.{forest}
use Rattle.yv_tree.specs.InnerPart.{step_into}
use Rattle.yv_tree.proofs.way.first_place.Given as goal

-- the step leads to the first of those that are left to which it leads
abbrev pub invariant-loop-place : goal.invariant-loop-place
invariant-loop-place l = step_into l.above l.step (forest l.schema (drop l.place l.ids)) ≡ step_into l.above l.step (forest l.schema l.ids)
