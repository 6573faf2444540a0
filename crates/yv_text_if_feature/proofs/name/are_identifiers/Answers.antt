use Rattle.std.proofs.Common.{nat_eq, rules}
use Rattle.std.proofs.lemmas.Iterator.Search.{all_from_yields_List}
use Rattle.std.proofs.lemmas.Iterator.Splits.{YieldsList-from_slice_split}
use Rattle.yv_text_if_feature.specs.Names.{is_identifier}
use Rattle.yv_text_if_feature.proofs.name.are_identifiers.Goals as goal

pub returns : goal.returns
returns c =
    all_from_yields_List is_identifier _ _ _ c.all.ensures.ran
    (YieldsList-from_slice_split _ (λ b. nat_eq b 58) _ c.split.ensures.rest c.split.ensures.done c.split.ensures.closure (λ x b q k. search rules))
    (λ x b q k. search rules)
