use Rattle.std.proofs.Common.{◌≡◌, ◌≤◌, length}
use Rattle.yv_text_grammar.specs.Words.{words}
use Rattle.yv_text_grammar.proofs.words.skip_blanks.Given as goal

abbrev pub invariant-loop-rest : goal.invariant-loop-rest
invariant-loop-rest l = record {
  same : words l.rest ≡ words l.text;
  shorter : length l.rest ≤ length l.text;
}

abbrev pub decreases-loop-rest : goal.decreases-loop-rest
decreases-loop-rest l = length l.rest
