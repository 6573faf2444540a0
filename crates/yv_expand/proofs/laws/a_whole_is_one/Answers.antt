use Rattle.yv_expand.proofs.ExpansionUniqueness.{whole_one}
use Rattle.yv_expand.proofs.laws.a_whole_is_one.Goals as goal

pub returns : goal.returns
returns c = λ files marks order own own' items items' is is'. whole_one c.a_name_means_one_thing.ensures files marks order own own' items items' is is'
