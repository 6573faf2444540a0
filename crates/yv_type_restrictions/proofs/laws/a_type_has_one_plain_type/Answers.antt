use Rattle.std.proofs.Common.{map}
use Rattle.yv_link_scopes.specs.Files.{brief_of}
use Rattle.yv_link_scopes.specs.RowList.{rows_of}
use Rattle.yv_type_restrictions.proofs.TypeStatementStep.{plain_once}
use Rattle.yv_type_restrictions.proofs.laws.a_type_has_one_plain_type.Goals as goal

pub returns : goal.returns
returns c = λ files k p q h g. plain_once c.statements_have_their_rows.ensures c.one_type_is_left.ensures files (c.a_type_follows_one_type.ensures (map brief_of files) (rows_of files)) q h g
