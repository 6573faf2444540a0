use Rattle.std.proofs.Common.{drop}
use Rattle.yv_nodes.specs.Rows.{children_of}
use Rattle.yv_data_quiet.proofs.QuietSteps.{IsLeft}
use Rattle.yv_data_quiet.proofs.quiet.inner_steps.Given as goal

-- with the children that are left, all are quiet and have their steps
abbrev pub invariant-loop-child : goal.invariant-loop-child
invariant-loop-child l = IsLeft l.schema l.total (drop l.child-index l.child-items) (children_of l.schema l.fn.parent)
