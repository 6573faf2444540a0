use Rattle.std.proofs.Common.{◌≡◌}
use Rattle.yv_text_grammar.specs.InnerDistinct.{share, text_of}
use Rattle.yv_text_grammar.specs.InnerWords.{words_left}
use Rattle.yv_text_grammar.proofs.distinct.has_one_of.Given as goal
use Rattle.std.proofs.Common.{map}

abbrev pub invariant-loop-word : goal.invariant-loop-word
invariant-loop-word l = share (map text_of l.sorted) (words_left l.word-iterator) ≡ share (map text_of l.sorted) (words_left l.fn.words)
