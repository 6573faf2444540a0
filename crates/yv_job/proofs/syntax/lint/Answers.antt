use Rattle.std.proofs.Common.{ap, ap₂, ◌∙◌}
use Rattle.std.proofs.lemmas.Result.{IfOk-weaker}
use Rattle.clap.specs.Words.{with_rule}
use Rattle.yv_job.specs.CommandLine.{with_shared}
use Rattle.yv_job.proofs.syntax.lint.Goals as goal

pub returns-clause-app : goal.returns-clause-app
returns-clause-app c =
    let choosing = c.in_ok-choosing.ensures.app ∙ ap₂ with_rule c.command-command.ensures.app c.option-rules.ensures.rule in
    let writing = c.in_ok-writing.ensures.app ∙ ap₂ with_rule choosing c.option-form.ensures.rule in
    IfOk-weaker c.with_shared_options.result _ _ (λ m h. h ∙ ap with_shared writing) c.with_shared_options.ensures.app
