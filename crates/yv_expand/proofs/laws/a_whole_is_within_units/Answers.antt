use Rattle.yv_expand.proofs.ExpansionUniqueness.{whole_within}
use Rattle.yv_expand.proofs.laws.a_whole_is_within_units.Goals as goal

pub returns : goal.returns
returns c = λ files marks order own units items is within distinct weigh.
    whole_within c.a_name_means_one_thing.ensures c.a_tree_is_listed_whole.ensures files marks order own units items is within distinct weigh
