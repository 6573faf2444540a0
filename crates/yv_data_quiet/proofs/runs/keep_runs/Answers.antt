use Rattle.yv_data_quiet.proofs.QuietRuns.{have_more}
use Rattle.yv_data_quiet.proofs.runs.keep_runs.Goals as goal

pub returns : goal.returns
returns c = have_more c.args.schema.now c.args.rows.now c.insert.new.self c.args.parent c.in_ok-runs.runs c.in_ok-insert.ensures.updates c.in_ok-runs.ensures c.requires.runs
