use Rattle.yv_expand.proofs.Once.{expands_one}
use Rattle.yv_expand.proofs.laws.an_expansion_is_one.Goals as goal

pub returns : goal.returns
returns c = λ files rows numbers t u e f. expands_one c.a_name_means_one_thing.ensures e f
