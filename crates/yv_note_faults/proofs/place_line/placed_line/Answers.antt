use Rattle.std.proofs.Common.{rules}
use Rattle.yv_note_faults.proofs.place_line.placed_line.Goals as goal

pub returns : goal.returns
returns c = record {
  row = c.args.place.line;
  column = c.args.place.column;
  row_digits = c.in_ok-numbers.ensures.line_digits;
  column_digits = c.in_ok-numbers.ensures.column_digits;
  is = search rules;
}
