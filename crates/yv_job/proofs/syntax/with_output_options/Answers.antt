use Rattle.std.proofs.Common.{ap, ap₂, ◌∙◌}
use Rattle.std.proofs.lemmas.Result.{IfOk-weaker}
use Rattle.clap.specs.Words.{with_rule, app_of}
use Rattle.yv_job.proofs.syntax.with_output_options.Goals as goal

pub returns-clause-app : goal.returns-clause-app
returns-clause-app c =
    let formed = c.in_ok-formed.ensures.app ∙ ap (with_rule (app_of c.args.command)) c.option-form.ensures.rule in
    IfOk-weaker c.with_arg-2.result _ _ (λ m h. h ∙ ap₂ with_rule formed c.flag-measures.ensures.rule) c.with_arg-2.ensures.app
