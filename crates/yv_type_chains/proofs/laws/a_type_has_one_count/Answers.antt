use Rattle.yv_type_chains.proofs.Once.{count_once}
use Rattle.yv_type_chains.proofs.laws.a_type_has_one_count.Goals as goal

pub returns : goal.returns
returns c = λ files rows k m n h g. count_once c.a_name_means_one_thing.ensures files rows n h g
