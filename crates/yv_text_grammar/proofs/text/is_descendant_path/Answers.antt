use Rattle.std.proofs.Common.{nat_eq, rules}
use Rattle.std.proofs.lemmas.Iterator.Search.{all_from_yields_List}
use Rattle.std.proofs.lemmas.Iterator.Splits.{YieldsList-from_slice_split}
use Rattle.yv_text_if_feature.specs.Names.{is_name}
use Rattle.yv_text_grammar.specs.Texts.{is_descendant_path}
use Rattle.yv_text_grammar.proofs.text.is_descendant_path.Goals as goal

pub returns : goal.returns
unfolding is_descendant_path
returns c =
    all_from_yields_List is_name _ _ _ c.all.ensures.ran
    (YieldsList-from_slice_split _ (λ b. nat_eq b 47) _ c.split.ensures.rest c.split.ensures.done c.split.ensures.closure (λ x b q k. search rules))
    (λ x b q k. search rules)
