use Rattle.std.proofs.Common.{arith}
use Rattle.yv_note_faults.proofs.Lines.{few_digits}
use Rattle.yv_note_faults.proofs.place_line.numbers.Goals as goal

pub returns-clause-line_digits : goal.returns-clause-line_digits
returns-clause-line_digits g = few_digits g.args.line (omega (arith, g.ranges.line.fits))

pub returns-clause-column_digits : goal.returns-clause-column_digits
returns-clause-column_digits g = few_digits g.args.column (omega (arith, g.ranges.column.fits))
