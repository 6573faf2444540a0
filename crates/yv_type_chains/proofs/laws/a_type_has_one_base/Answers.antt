use Rattle.yv_type_chains.proofs.Once.{base_once}
use Rattle.yv_type_chains.proofs.laws.a_type_has_one_base.Goals as goal

pub returns : goal.returns
returns c = λ files rows k b d h g. base_once c.a_name_means_one_thing.ensures files rows d h g
