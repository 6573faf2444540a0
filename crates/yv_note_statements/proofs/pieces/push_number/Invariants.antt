use Rattle.std.proofs.Common.{string_bytes}
use Rattle.yv_note_text.specs.Quotes.{Extends}
use Rattle.yv_note_statements.proofs.pieces.push_number.Given as goal

abbrev pub invariant-loop-place : goal.invariant-loop-place
invariant-loop-place l = Extends (string_bytes l.fn.text) (string_bytes l.text)
