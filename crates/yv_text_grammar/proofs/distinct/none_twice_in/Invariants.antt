use Rattle.std.proofs.Common.{◌≡◌, length}
use Rattle.yv_text_grammar.specs.InnerWords.{words_left}
use Rattle.yv_text_grammar.specs.Texts.{none_twice}
use Rattle.yv_text_grammar.specs.Words.{words}
use Rattle.yv_text_grammar.proofs.distinct.none_twice_in.Given as goal

abbrev pub invariant-loop-words : goal.invariant-loop-words
invariant-loop-words l = none_twice (words_left l.words) ≡ none_twice (words l.text)

abbrev pub decreases-loop-words : goal.decreases-loop-words
decreases-loop-words l = length (words_left l.words)
