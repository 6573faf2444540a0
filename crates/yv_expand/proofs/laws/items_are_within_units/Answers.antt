use Rattle.yv_expand.proofs.Once.{expands_within}
use Rattle.yv_expand.proofs.laws.items_are_within_units.Goals as goal

pub returns : goal.returns
returns c = λ files rows numbers t n e w. expands_within c.a_name_means_one_thing.ensures e w
