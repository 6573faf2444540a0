use Rattle.std.proofs.Common.{option_map, string_bytes, IfErr, IfOk, subst, List, ℕ}
use Rattle.clap.specs.Words.{rows_of, found_of}
use Rattle.yv_job.specs.Asks.{IsAsked}
use Rattle.yv_job.specs.Faults.{IsReason}
use Rattle.yv_job.specs.Matches.{IsReport}
use Rattle.yv_job.specs.Requests.{ActionAsked}
use Rattle.yv_job.specs.declared.matches.ReportOptions.{ReportOptions}
use Rattle.yv_job.proofs.FaultLemmas.{limit_line, no_report, no_request}
use Rattle.yv_job.proofs.matches.request_of_command.Goals as goal

pub returns-in_default-clause-reason : goal.returns-in_default-clause-reason
returns-in_default-clause-reason c =
    limit_line c.args.name.now (rows_of (found_of c.args.below.now)) (option_map (λ t. t.now) c.first-nodes.result) (string_bytes c.in_ok-value_line.field-0)
    c.first-nodes.ensures c.in_default.ensures.limit c.in_ok-value_line.ensures

pub returns-in-Err-clause-reason : goal.returns-in-Err-clause-reason
returns-in-Err-clause-reason c =
    let said = subst (λ r. IfErr r (λ line. (name : List ℕ) → IsReason name (rows_of (found_of c.args.below.now)) (string_bytes line))) c.in-Err.is c.in_ok-selection.ensures.reason in
    said c.args.name.now

pub returns-in-Err-2-clause-nothing : goal.returns-in-Err-2-clause-nothing
returns-in-Err-2-clause-nothing c =
    let none = subst (λ r. IfErr r (λ _. (o : ReportOptions) → IsReport (rows_of (found_of c.args.below.now)) o → ⊥)) c.in-Err-2.is c.in_ok-report.ensures.nothing in
    no_report c.args.name.now (rows_of (found_of c.args.below.now)) none

pub returns-in-Err-2-clause-reason : goal.returns-in-Err-2-clause-reason
returns-in-Err-2-clause-reason c =
    let said = subst (λ r. IfErr r (λ line. (name : List ℕ) → IsReason name (rows_of (found_of c.args.below.now)) (string_bytes line))) c.in-Err-2.is c.in_ok-report.ensures.reason in
    said c.args.name.now

pub action_of-requires-clause-each : goal.action_of-requires-clause-each
action_of-requires-clause-each c =
    (subst (λ r. IfOk r (IsReport (rows_of (found_of c.args.below.now)))) c.in-Ok-2.is c.in_ok-report.ensures.report).each

pub action_of-requires-clause-form : goal.action_of-requires-clause-form
action_of-requires-clause-form c =
    (subst (λ r. IfOk r (IsReport (rows_of (found_of c.args.below.now)))) c.in-Ok-2.is c.in_ok-report.ensures.report).output.form

pub returns-in-Err-3-clause-nothing : goal.returns-in-Err-3-clause-nothing
returns-in-Err-3-clause-nothing c =
    let report = subst (λ r. IfOk r (IsReport (rows_of (found_of c.args.below.now)))) c.in-Ok-2.is c.in_ok-report.ensures.report in
    let none = subst (λ r. IfErr r (λ _. (a : ActionAsked) → IsAsked c.args.name.now (rows_of (found_of c.args.below.now)) c.in-Ok-2.report.each c.in-Ok-2.report.output.form a → ⊥)) c.in-Err-3.is c.in_ok-action.ensures.nothing in
    no_request c.args.name.now (rows_of (found_of c.args.below.now)) c.in-Ok-2.report.each c.in-Ok-2.report.output.form report.each report.output.form none
