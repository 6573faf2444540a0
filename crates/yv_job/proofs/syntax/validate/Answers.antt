use Rattle.std.proofs.Common.{ap, ap₂, ◌∙◌}
use Rattle.std.proofs.lemmas.Result.{IfOk-weaker}
use Rattle.clap.specs.Words.{with_rule}
use Rattle.yv_job.specs.CommandLine.{with_output, with_shared}
use Rattle.yv_job.proofs.syntax.validate.Goals as goal

pub returns-clause-app : goal.returns-clause-app
returns-clause-app c =
    let checking = c.in_ok-checking.ensures.app ∙ ap₂ with_rule c.command-command.ensures.app c.required_repeated_option-data.ensures.rule in
    let splitting = c.in_ok-splitting.ensures.app ∙ ap₂ with_rule checking c.option-each.ensures.rule in
    let asking = c.in_ok-asking.ensures.app ∙ ap₂ with_rule splitting c.option-kind.ensures.rule in
    let explaining = c.in_ok-explaining.ensures.app ∙ ap₂ with_rule asking c.option-explain.ensures.rule in
    let writing = c.in_ok-writing.ensures.app ∙ ap with_output explaining in
    IfOk-weaker c.with_shared_options.result _ _ (λ m h. h ∙ ap with_shared writing) c.with_shared_options.ensures.app
