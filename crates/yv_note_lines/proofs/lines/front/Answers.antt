use Rattle.std.proofs.Common.{sym, arith}
use Rattle.std.proofs.lemmas.List.{length-take-le, take_all}
use Rattle.yv_note_lines.proofs.lines.front.Goals as goal

pub slice_bounds-result-end : goal.slice_bounds-result-end
slice_bounds-result-end c = sym (length-take-le 1400 c.args.bytes.now (omega (arith, c.if-bytes-le-MOST_BYTES.false)))

pub returns-then-bytes-le-MOST_BYTES : goal.returns-then-bytes-le-MOST_BYTES
returns-then-bytes-le-MOST_BYTES c = sym (take_all 1400 c.args.bytes.now c.if-bytes-le-MOST_BYTES.true)
