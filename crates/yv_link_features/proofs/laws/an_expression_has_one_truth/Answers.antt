use Rattle.std.proofs.Common.{map}
use Rattle.yv_link_scopes.specs.Files.{brief_of}
use Rattle.yv_link_scopes.specs.RowList.{rows_of}
use Rattle.yv_link_features.proofs.Once.{none_cyclic, one_truth}
use Rattle.yv_link_features.proofs.laws.an_expression_has_one_truth.Goals as goal

pub returns : goal.returns
returns c = λ files choice file text a b none h g.
    one_truth (map brief_of files) (rows_of files) choice (none_cyclic (map brief_of files) (rows_of files) none) c.names_stand_in_order.ensures h.on g.on h.are_on g.are_on c.a_text_spells_one_if_feature.ensures file text a b h.has_value g.has_value
