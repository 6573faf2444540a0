use Rattle.yv_base_positions.proofs.LineLemmas.{column_from}
use Rattle.yv_base_positions.proofs.columns.place_of.Goals as goal

pub returns-then-earlier-offset-clause-column : goal.returns-then-earlier-offset-clause-column
returns-then-earlier-offset-clause-column c = column_from c.args.bytes.now c.args.offset c.min-offset.result c.line_start_from-line_start.result c.min-offset.ensures c.line_start_from-line_start.ensures

pub returns-else-earlier-offset-clause-column : goal.returns-else-earlier-offset-clause-column
returns-else-earlier-offset-clause-column c = column_from c.args.bytes.now c.args.offset c.min-offset.result c.line_start_from-line_start-else-earlier-offset.result c.min-offset.ensures c.line_start_from-line_start-else-earlier-offset.ensures
