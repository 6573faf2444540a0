use Rattle.yv_values.proofs.Single.{texts_one}
use Rattle.yv_values.proofs.laws.texts_that_rise_are_one_list.Goals as goal

pub returns : goal.returns
returns c = texts_one
