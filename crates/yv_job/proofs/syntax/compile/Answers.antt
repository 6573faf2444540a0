use Rattle.std.proofs.Common.{ap, ◌∙◌}
use Rattle.std.proofs.lemmas.Result.{IfOk-weaker}
use Rattle.yv_job.specs.CommandLine.{with_output, with_shared}
use Rattle.yv_job.proofs.syntax.compile.Goals as goal

pub returns-clause-app : goal.returns-clause-app
returns-clause-app c =
    let writing = c.in_ok-writing.ensures.app ∙ ap with_output c.command-command.ensures.app in
    IfOk-weaker c.with_shared_options.result _ _ (λ m h. h ∙ ap with_shared writing) c.with_shared_options.ensures.app
