use Rattle.std.proofs.Common.{◌≡◌, [], map, vec_len}
use Rattle.yv_node_statements.specs.InnerRefinedStore.{with_runs}
use Rattle.yv_node_statements.proofs.refined_definitions.join_runs.Given as goal

-- behind those that were joined, the refines of the runs that are left are all
abbrev pub invariant-loop-run : goal.invariant-loop-run
invariant-loop-run l =
    with_runs l.refines.items (map (λ run. run.now) l.runs.items) ≡ with_runs [] (map (λ run. run.now) l.fn.runs.items)

abbrev pub decreases-loop-run : goal.decreases-loop-run
decreases-loop-run l = vec_len l.runs
