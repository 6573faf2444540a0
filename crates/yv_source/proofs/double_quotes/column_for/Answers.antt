use Rattle.yv_source.specs.Place.{column_of}
use Rattle.yv_source.proofs.Plain.{one_line_strips}
use Rattle.yv_source.proofs.double_quotes.column_for.Goals as goal

pub returns-then-is_one_line-clause-strips : goal.returns-then-is_one_line-clause-strips
returns-then-is_one_line-clause-strips c = one_line_strips 0 (column_of c.args.front.now) c.args.text.now (c.is_one_line.ensures c.if-is_one_line.true)
