use Rattle.std.proofs.Common.{◌≡◌, Some}
use Rattle.yv_data_quiet.specs.Quiet.{steps_at}
use Rattle.yv_data_quiet.proofs.QuietSteps.{of_some}
use Rattle.yv_data_quiet.proofs.QuietRuns.{run_more}
use Rattle.yv_data_quiet.proofs.runs.longer.Goals as goal

pub returns : goal.returns
returns c = λ s n ns run known.
    run_more s n ns c.args.run _ c.in_ok-own.own run (of_some c.args.steps c.in_ok-own.own c.in_ok-own.was (λ w. steps_at s n ≡ Some w) known)
    c.in_ok-many.ensures.1 c.in_ok-all.ensures.1
