use Rattle.yv_expand.proofs.UnitOnce.{weigh_one}
use Rattle.yv_expand.proofs.unit_laws.units_are_one.Goals as goal

pub returns : goal.returns
returns c = λ files rows numbers n m w v. weigh_one c.a_name_means_one_thing.ensures w v
