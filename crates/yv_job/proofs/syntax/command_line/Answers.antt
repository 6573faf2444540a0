use Rattle.std.proofs.Common.{ap₂, ◌∙◌}
use Rattle.std.proofs.lemmas.Result.{IfOk-weaker}
use Rattle.clap.specs.Words.{with_subcommand, App}
use Rattle.yv_job.proofs.syntax.command_line.Goals as goal

pub returns : goal.returns
returns c =
    let joined = λ (a : App) (b : App). with_subcommand a b.top in
    let one = c.in_ok-one.ensures.app ∙ ap₂ joined c.top.ensures.app c.in_ok-compile.ensures.app in
    let two = c.in_ok-two.ensures.app ∙ ap₂ joined one c.in_ok-tree.ensures.app in
    let three = c.in_ok-three.ensures.app ∙ ap₂ joined two c.in_ok-validate.ensures.app in
    let four = c.in_ok-four.ensures.app ∙ ap₂ joined three c.in_ok-lint.ensures.app in
    IfOk-weaker c.with_command-5.result _ _ (λ m h. h ∙ ap₂ joined four c.in_ok-plain_command.ensures.app) c.with_command-5.ensures.app
