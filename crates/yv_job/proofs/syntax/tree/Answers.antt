use Rattle.std.proofs.Common.{ap, ap₂, ◌∙◌}
use Rattle.std.proofs.lemmas.Result.{IfOk-weaker}
use Rattle.clap.specs.Words.{with_rule}
use Rattle.yv_job.specs.CommandLine.{with_shared}
use Rattle.yv_job.proofs.syntax.tree.Goals as goal

pub returns-clause-app : goal.returns-clause-app
returns-clause-app c =
    let naming = c.in_ok-naming.ensures.app ∙ ap₂ with_rule c.command-command.ensures.app c.repeated_option-module.ensures.rule in
    let stopping = c.in_ok-stopping.ensures.app ∙ ap₂ with_rule naming c.option-depth.ensures.rule in
    let choosing = c.in_ok-choosing.ensures.app ∙ ap₂ with_rule stopping c.option-below.ensures.rule in
    let drawing = c.in_ok-drawing.ensures.app ∙ ap₂ with_rule choosing c.flag-columns.ensures.rule in
    IfOk-weaker c.with_shared_options.result _ _ (λ m h. h ∙ ap with_shared drawing) c.with_shared_options.ensures.app
