use Rattle.yv_type_restrictions.proofs.Wider.{value_of_type}
use Rattle.yv_type_restrictions.proofs.facet_laws.a_value_of_what_is_left_is_one_of_the_type.Goals as goal

pub returns : goal.returns
returns c = value_of_type
