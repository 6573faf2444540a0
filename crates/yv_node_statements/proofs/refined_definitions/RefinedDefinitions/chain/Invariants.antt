use Rattle.std.proofs.Common.{◌≡◌, map}
use Rattle.yv_expand_refines.specs.Changes.{sequence_at}
use Rattle.std.specs.Prelude.{Some}
use Rattle.yv_node_statements.specs.InnerRefinedStore.{with_runs}
use Rattle.yv_node_statements.specs.RefinedContext.{sequences_of}
use Rattle.yv_node_statements.proofs.refined_definitions.RefinedDefinitions.chain.Given as goal

-- the refines of the next sequence and those of the runs behind are all
abbrev pub invariant-loop-runs : goal.invariant-loop-runs
invariant-loop-runs l =
    with_runs (sequence_at (sequences_of l.self) (Some l.next)) (map (λ run. run.now) l.runs.items) ≡ sequence_at (sequences_of l.self) (Some l.fn.sequence)

abbrev pub decreases-loop-runs : goal.decreases-loop-runs
decreases-loop-runs l = l.next
