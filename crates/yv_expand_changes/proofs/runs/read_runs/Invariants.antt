use Rattle.std.proofs.Common.{◌≡◌, take}
use Rattle.yv_link_scopes.specs.Views.{lent_in}
use Rattle.yv_expand_changes.specs.InnerAlike.{runs_of}
use Rattle.yv_expand_changes.specs.InnerLists.{lists_of}
use Rattle.yv_expand_changes.proofs.runs.read_runs.Given as goal

-- the runs of the first of them
abbrev pub invariant-loop-refine_target : goal.invariant-loop-refine_target
invariant-loop-refine_target l = lists_of l.runs.items ≡ runs_of (lent_in l.rows) l.ways (take l.refine_target-index l.refine_targets)
