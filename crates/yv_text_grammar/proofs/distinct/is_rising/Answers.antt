use Rattle.std.proofs.Common.{rules}
use Rattle.std.specs.Ordering.{is_lt}
use Rattle.std.proofs.lemmas.List.Sorted.{answers_always}
use Rattle.yv_text_grammar.specs.InnerDistinct.{by_text}
use Rattle.yv_text_grammar.proofs.SortedWords.{rising_is}
use Rattle.yv_text_grammar.proofs.distinct.is_rising.Goals as goal

pub returns : goal.returns
returns c = rising_is c.args.sorted.now c.is_sorted_by.result c.requires (c.is_sorted_by.ensures.cases (λ x y. is_lt (by_text x y)) (answers_always _ _ _ (λ f a r q called. search rules)))
