use Rattle.std.proofs.Common.{option_map, string_bytes}
use Rattle.clap.specs.Words.{rows_of, found_of}
use Rattle.yv_job.proofs.FaultLemmas.{each_line, explain_line, kind_line}
use Rattle.yv_job.proofs.matches.report_of.Goals as goal

pub returns-in_default-clause-reason : goal.returns-in_default-clause-reason
returns-in_default-clause-reason c = λ name.
    kind_line name (rows_of (found_of c.args.below.now)) (option_map (λ t. t.now) c.first-word.result) (string_bytes c.in_ok-value_line.field-0)
    c.first-word.ensures c.in_default.ensures c.in_ok-value_line.ensures

pub returns-in_default-each_value-clause-reason : goal.returns-in_default-each_value-clause-reason
returns-in_default-each_value-clause-reason c = λ name.
    each_line name (rows_of (found_of c.args.below.now)) (option_map (λ t. t.now) c.first-word-2.result) (string_bytes c.in_ok-value_line-2.field-0)
    c.first-word-2.ensures c.in_default-each_value.ensures c.in_ok-value_line-2.ensures

pub returns-in_default-explain_value-clause-reason : goal.returns-in_default-explain_value-clause-reason
returns-in_default-explain_value-clause-reason c = λ name.
    explain_line name (rows_of (found_of c.args.below.now)) (option_map (λ t. t.now) c.first-number.result) (string_bytes c.in_ok-value_line-3.field-0)
    c.first-number.ensures c.in_default-explain_value.ensures c.in_ok-value_line-3.ensures
