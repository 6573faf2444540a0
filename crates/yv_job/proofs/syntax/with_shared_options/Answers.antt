use Rattle.std.proofs.Common.{ap, ap₂, ◌∙◌}
use Rattle.std.proofs.lemmas.Result.{IfOk-weaker}
use Rattle.clap.specs.Words.{with_rule, app_of}
use Rattle.yv_job.proofs.syntax.with_shared_options.Goals as goal

pub returns-clause-app : goal.returns-clause-app
returns-clause-app c =
    let counted = c.in_ok-counted.ensures.app ∙ ap (with_rule (app_of c.args.command)) c.option-nodes.ensures.rule in
    let supported = c.in_ok-supported.ensures.app ∙ ap₂ with_rule counted c.option-support.ensures.rule in
    let chosen = c.in_ok-chosen.ensures.app ∙ ap₂ with_rule supported c.option-imports.ensures.rule in
    let searched = c.in_ok-searched.ensures.app ∙ ap₂ with_rule chosen c.repeated_option-folders.ensures.rule in
    IfOk-weaker c.with_arg-5.result _ _ (λ m h. h ∙ ap₂ with_rule searched c.files.ensures.rule) c.with_arg-5.ensures.app
