use Rattle.std.proofs.Common.{◌≡◌, ◌≤◌, ◌++◌, length, map, take}
use Rattle.yv_text_grammar.specs.InnerDistinct.{text_of}
use Rattle.yv_text_grammar.specs.InnerWords.{words_left}
use Rattle.yv_text_grammar.proofs.distinct.fill.Given as goal

abbrev pub invariant-loop-count : goal.invariant-loop-count
invariant-loop-count l = record {
  within : l.count ≤ length l.table;
  taken : words_left l.fn.words ≡ map text_of (take l.count l.table) ++ words_left l.words;
}
