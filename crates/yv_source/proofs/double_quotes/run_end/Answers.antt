use Rattle.yv_source.proofs.Runs.{run_found}
use Rattle.yv_source.proofs.double_quotes.run_end.Goals as goal

pub returns-clause-inside : goal.returns-clause-inside
returns-clause-inside c = (run_found c.args.bytes.now c.memchr3.result c.unwrap_or.result c.unwrap_or.ensures c.memchr3.ensures).1
