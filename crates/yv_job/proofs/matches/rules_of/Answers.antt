use Rattle.std.proofs.Common.{option_map, string_bytes}
use Rattle.clap.specs.Words.{rows_of, found_of}
use Rattle.yv_job.proofs.FaultLemmas.{rules_line}
use Rattle.yv_job.proofs.matches.rules_of.Goals as goal

pub returns-in_default-clause-reason : goal.returns-in_default-clause-reason
returns-in_default-clause-reason c = λ name.
    rules_line name (rows_of (found_of c.args.below.now)) (option_map (λ t. t.now) c.first-names.result) (string_bytes c.in_ok-value_line.field-0)
    c.first-names.ensures c.in_default.ensures c.in_ok-value_line.ensures
