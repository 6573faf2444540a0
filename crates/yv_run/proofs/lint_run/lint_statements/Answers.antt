use Rattle.std.proofs.Common.{◌∙◌, map}
use Rattle.std.proofs.lemmas.Result.{IfOk-weaker}
use Rattle.yv_base_streams.specs.Files.{file_of}
use Rattle.yv_job.specs.Jobs.{task_of}
use Rattle.yv_lint.specs.RuleChoice.{asked_in}
use Rattle.yv_run.proofs.LintLemmas.{found_lint, refused_lint}
use Rattle.yv_run.proofs.lint_run.lint_statements.Goals as goal

pub returns-in_ok-list-in-Ok-clause-runs : goal.returns-in_ok-list-in-Ok-clause-runs
returns-in_ok-list-in-Ok-clause-runs g c =
    found_lint (task_of c.args.job.now) (asked_in c.args.rules.now) c.args.named (map file_of c.args.inputs.now) c.args.statements.now _ c.in-Ok.schema _ _ _
    (c.in-Ok.ensures.schema (map file_of c.args.inputs.now) c.requires.read) c.requires.read
    (c.deref.ensures.value ∙ c.in_ok-list-in-Ok.ensures) c.write_findings-ended.ensures.writes c.write_findings-ended.ensures.notes

pub returns-in-Err-clause-runs : goal.returns-in-Err-clause-runs
returns-in-Err-clause-runs g c =
    IfOk-weaker c.write_stop.result _ _
    (λ e h. refused_lint (task_of c.args.job.now) (asked_in c.args.rules.now) c.args.named (map file_of c.args.inputs.now) c.in-Err.stop e _ _ h
    (λ r is. c.in-Err.ensures.refuses (map file_of c.args.inputs.now) c.requires.read r is))
    c.write_stop.ensures.writes
