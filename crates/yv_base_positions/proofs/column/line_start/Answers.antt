use Rattle.yv_base_positions.proofs.ColumnLemmas.{after_last, without_feed}
use Rattle.yv_base_positions.proofs.column.line_start.Goals as goal

pub returns-in-Some-clause-value : goal.returns-in-Some-clause-value
returns-in-Some-clause-value c = after_last c.args.front.now c.in-Some.at c.memrchr.result c.in-Some.is c.memrchr.ensures

pub returns-in-None-clause-value : goal.returns-in-None-clause-value
returns-in-None-clause-value c = without_feed c.args.front.now c.memrchr.result c.in-None.is c.memrchr.ensures
