use Rattle.std.proofs.Common.{◌∙◌}
use Rattle.yv_text_grammar.proofs.SortedWords.{searched_among}
use Rattle.yv_text_grammar.proofs.distinct.is_among.Goals as goal

pub returns : goal.returns
returns c = c.is_ok.ensures.value ∙ searched_among c.args.word c.args.sorted.now c.binary_search.result c.requires c.binary_search.ensures.bound c.binary_search.ensures.position
