use Rattle.std.proofs.Common.{◌≡◌, ℕ, List, [], ap, rules, ◌∙◌}
use Rattle.yv_node_statements.specs.InnerRefinedStore.{with_runs}
use Rattle.yv_node_statements.proofs.RefineRuns.{none_left, one_less, read}
use Rattle.yv_node_statements.proofs.refined_definitions.join_runs.Goals as goal

pub loop-run-preserved : goal.loop-run-preserved
loop-run-preserved c =
    let runs = c.pop.new.self.items in
    ap (λ (refines : List ℕ). with_runs refines (read runs)) c.in_ok-extend_from_slice.ensures.items
    ∙ one_less c.loop-run.refines.items (with_runs [] (read c.args.runs.items)) c.loop-run.runs.items runs c.in-Some.run' c.in-Some.ensures.items c.loop-run.invariant

pub returns : goal.returns
returns c =
    let none : c.loop-run.runs.items ≡ [] = search rules in
    none_left c.loop-run.refines.items (with_runs [] (read c.args.runs.items)) c.loop-run.runs.items none c.loop-run.invariant
