use Rattle.std.proofs.Common.{rules, tests}
use Rattle.std.proofs.lemmas.Iterator.Consumers.{YieldsList-from_first}
use Rattle.std.proofs.lemmas.Iterator.Search.{all_from_yields_List}
use Rattle.yv_text_grammar.specs.Texts.{is_descendant_path}
use Rattle.yv_text_grammar.specs.InnerWords.{words_left}
use Rattle.yv_text_grammar.proofs.lists.are_descendant_paths.Goals as goal

pub returns : goal.returns
returns c =
    all_from_yields_List is_descendant_path c.all.new.self _ _ c.all.ensures.ran
    (YieldsList-from_first (λ x. x.now) words_left {s = c.new.result} _ c.new.ensures) (λ x b q k. search (rules, tests))
