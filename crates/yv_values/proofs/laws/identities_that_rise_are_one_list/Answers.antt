use Rattle.yv_values.proofs.Single.{ids_one}
use Rattle.yv_values.proofs.laws.identities_that_rise_are_one_list.Goals as goal

pub returns : goal.returns
returns c = ids_one
