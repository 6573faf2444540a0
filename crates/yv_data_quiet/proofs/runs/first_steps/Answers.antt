use Rattle.std.proofs.Common.{◌≡◌, ◌+◌, List, drop, arith}
use Rattle.yv_nodes.specs.declared.node.NodeId.{NodeId}
use Rattle.yv_nodes.specs.Rows.{Rows}
use Rattle.yv_data_quiet.specs.Runs.{IsRun}
use Rattle.yv_data_quiet.proofs.QuietRuns.{front_run, if_rest}
use Rattle.yv_data_quiet.proofs.runs.first_steps.Goals as goal

pub returns : goal.returns
returns c =
    let run = c.args.run in
    let rest = c.args.rest in
    let many = c.args.many in
    let parts : run.many ≡ many + rest.many = omega (arith, c.in_ok-others.ensures.0, c.in_ok-others.ensures.1) in
    if_rest c.checked_sub-2.result run.steps rest.steps
    (λ steps. (s : Rows) (ns : List NodeId) → IsRun s ns run → IsRun s (drop many ns) rest → IsRun s ns (record { many = many; steps = steps }))
    c.checked_sub-2.ensures (λ steps sum. λ s ns whole later. front_run s ns run rest many steps parts sum whole later)
