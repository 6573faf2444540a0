use Rattle.std.proofs.Common.{ap, ◌∙◌}
use Rattle.std.proofs.lemmas.Result.{IfOk-weaker}
use Rattle.yv_job.specs.CommandLine.{with_shared}
use Rattle.yv_job.proofs.syntax.plain_command.Goals as goal

pub returns-clause-app : goal.returns-clause-app
returns-clause-app c = IfOk-weaker c.with_shared_options.result _ _ (λ m h. h ∙ ap with_shared c.command.ensures.app) c.with_shared_options.ensures.app
