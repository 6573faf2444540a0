use Rattle.std.proofs.Common.{rules, option_map, string_bytes}
use Rattle.clap.specs.Words.{rows_of, found_of}
use Rattle.yv_job.proofs.FaultLemmas.{below_line, depth_line}
use Rattle.yv_job.proofs.matches.tree_of.Goals as goal

pub returns-in_default-clause-reason : goal.returns-in_default-clause-reason
returns-in_default-clause-reason c = λ name.
    depth_line name (rows_of (found_of c.args.below.now)) (option_map (λ t. t.now) c.first-number.result) (string_bytes c.in_ok-value_line.field-0)
    c.first-number.ensures c.in_default.ensures c.in_ok-value_line.ensures

pub returns-in_default-2-clause-reason : goal.returns-in_default-2-clause-reason
returns-in_default-2-clause-reason c = λ name.
    below_line name (rows_of (found_of c.args.below.now)) (option_map (λ t. t.now) c.first-way.result) (string_bytes c.in_ok-value_line-2.field-0)
    c.first-way.ensures (search rules) c.in_ok-value_line-2.ensures
