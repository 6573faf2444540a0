use Rattle.std.proofs.Common.{◌∙◌, ap, lit<, rules, tests}
use Rattle.std.specs.Iterator.Adapters.{filter_source, filter_callee}
use Rattle.std.specs.Str.Iter.{split_text, split_has_more, split_pattern}
use Rattle.std.proofs.lemmas.Iterator.{YieldsList-from_take}
use Rattle.std.proofs.lemmas.Iterator.Consumers.{YieldsList-from_filter, count_from_yields_List}
use Rattle.std.proofs.lemmas.Iterator.Splits.{YieldsList-from_str_split}
use Rattle.yv_values.specs.Texts.{is_word}
use Rattle.yv_values.proofs.bits.count_up_to.Goals as goal

pub returns : goal.returns
returns c =
    let same = ap filter_source c.take.ensures.source ∙ c.filter.ensures.source in
    count_from_yields_List c.take.result _ c.count.ensures.ran
    (YieldsList-from_take c.args.most (YieldsList-from_filter _ is_word (YieldsList-from_str_split 32 c.args.text.now (lit< tt) (ap split_text same ∙ c.split.ensures.text) (ap split_has_more same ∙ c.split.ensures.has_more) (ap split_pattern same ∙ c.split.ensures.pattern)) (ap filter_callee c.take.ensures.source ∙ c.filter.ensures.closure) (λ x b q k. search (rules, tests))) c.take.ensures.count)
