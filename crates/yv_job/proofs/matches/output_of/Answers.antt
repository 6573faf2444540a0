use Rattle.std.proofs.Common.{option_map, string_bytes}
use Rattle.clap.specs.Words.{rows_of, found_of}
use Rattle.yv_job.proofs.FaultLemmas.{form_line}
use Rattle.yv_job.proofs.matches.output_of.Goals as goal

pub returns-in_default-clause-reason : goal.returns-in_default-clause-reason
returns-in_default-clause-reason c = λ name.
    form_line name (rows_of (found_of c.args.below.now)) (option_map (λ t. t.now) c.first-word.result) (string_bytes c.in_ok-value_line.field-0)
    c.first-word.ensures c.in_default.ensures c.in_ok-value_line.ensures
