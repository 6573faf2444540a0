use Rattle.std.proofs.Common.{◌≡◌, true, false, not, ◌&&◌, ◌||◌, drop}
use Rattle.yv_text_grammar.specs.Bytes.{closing_bracket}
use Rattle.yv_text_grammar.specs.Conditions.{has_byte, has_function_from}
use Rattle.yv_text_grammar.proofs.refusal.has_function.Given as goal

abbrev pub invariant-loop-byte : goal.invariant-loop-byte
invariant-loop-byte l = record {
  left : ((l.is_waiting && not (has_byte closing_bracket (drop l.byte-index l.text))) || has_function_from l.is_inside (drop l.byte-index l.text)) ≡ has_function_from false l.text;
  inside : (not l.is_waiting || l.is_inside) ≡ true;
}
