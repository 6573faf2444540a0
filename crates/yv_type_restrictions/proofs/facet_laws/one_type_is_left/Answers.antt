use Rattle.yv_type_restrictions.proofs.One.{narrows_one}
use Rattle.yv_type_restrictions.proofs.facet_laws.one_type_is_left.Goals as goal

pub returns : goal.returns
returns c = narrows_one
