use Rattle.yv_source.proofs.Runs.{run_front}
use Rattle.yv_source.proofs.double_quotes.run_len.Goals as goal

pub returns-clause-inside : goal.returns-clause-inside
returns-clause-inside c = run_front c.args.bytes.now c.len_before_gap.result c.run_end.result c.len_before_gap.ensures.within c.run_end.ensures.inside
