use Rattle.std.proofs.Common.{map}
use Rattle.std.proofs.lemmas.Result.{IfOk-weaker}
use Rattle.yv_base_streams.specs.Files.{file_of}
use Rattle.yv_job.specs.Jobs.{task_of}
use Rattle.yv_lint.specs.RuleChoice.{asked_in}
use Rattle.yv_run.proofs.LintLemmas.{unread_lint}
use Rattle.yv_run.proofs.lint_run.lint_files.Goals as goal

pub returns-clause-runs : goal.returns-clause-runs
returns-clause-runs g c =
    IfOk-weaker c.write_stop.result _ _
    (λ e h. unread_lint (task_of c.args.job.now) (asked_in c.args.rules.now) c.args.named (map file_of c.args.inputs.now) c.in-Err.stop e _ _ h
    (λ r is. c.in-Err.ensures.refuses (map file_of c.args.inputs.now) c.in_ok-texts.ensures r is))
    c.write_stop.ensures.writes
