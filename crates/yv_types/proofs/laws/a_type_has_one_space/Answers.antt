use Rattle.std.proofs.Common.{map}
use Rattle.yv_link_scopes.specs.Files.{brief_of}
use Rattle.yv_link_scopes.specs.RowList.{rows_of}
use Rattle.yv_types.proofs.Single.{space_once}
use Rattle.yv_types.proofs.laws.a_type_has_one_space.Goals as goal

pub returns : goal.returns
returns c = λ files choice truth k ps qs h g.
    space_once c.texts_that_rise_are_one_list.ensures c.identities_that_rise_are_one_list.ensures c.statements_have_their_rows.ensures files truth choice
    (c.a_type_follows_one_type.ensures (map brief_of files) (rows_of files)) (c.a_type_has_one_plain_type.ensures files) qs h g
