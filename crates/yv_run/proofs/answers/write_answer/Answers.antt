use Rattle.std.proofs.Common.{◌≡◌}
use Rattle.std.proofs.lemmas.Result.{IfOk-weaker}
use Rattle.yv_job.specs.Jobs.{Checks, Compiles, Draws, asked_of}
use Rattle.yv_run.proofs.RunLemmas.{both, runs_count, runs_document, runs_tree}
use Rattle.yv_run.proofs.answers.write_answer.Goals as goal

pub returns-in-Compile-clause-runs : goal.returns-in-Compile-clause-runs
returns-in-Compile-clause-runs g c =
    let asked : asked_of c.args.job.now.command ≡ Compiles = rw c.in-Compile.is in
    both _ _ _ c.write_count.result
    (λ e writes noted. runs_count _ _ e _ c.args.job.now.explain (asked_of c.args.job.now.command) c.args.job.now.output c.args.job.now.kind c.args.schema asked writes noted)
    c.write_count.ensures.writes c.write_count.ensures.notes

pub returns-in-Tree-clause-runs : goal.returns-in-Tree-clause-runs
returns-in-Tree-clause-runs g c =
    let asked : asked_of c.args.job.now.command ≡ Draws c.in-Tree.options = rw c.in-Tree.is (cc) in
    both _ _ _ c.write_tree.result
    (λ e writes noted. runs_tree _ _ e _ c.args.job.now.explain (asked_of c.args.job.now.command) c.in-Tree.options c.args.job.now.output c.args.job.now.kind c.args.schema asked writes noted)
    c.write_tree.ensures.writes c.write_tree.ensures.notes

pub returns-in-Validate-clause-runs : goal.returns-in-Validate-clause-runs
returns-in-Validate-clause-runs g c =
    let asked : asked_of c.args.job.now.command ≡ Checks c.as_str.result.now = rw c.in-Validate.is (cc) in
    IfOk-weaker c.validate_document.result _ _
    (λ e runs. runs_document _ _ e _ _ c.args.job.now.explain (asked_of c.args.job.now.command) c.args.job.now.output c.args.job.now.kind c.args.schema _ asked runs)
    c.validate_document.ensures.runs
