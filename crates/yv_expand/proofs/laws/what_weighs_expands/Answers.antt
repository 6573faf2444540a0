use Rattle.yv_expand.proofs.Once.{weighed_expands}
use Rattle.yv_expand.proofs.laws.what_weighs_expands.Goals as goal

pub returns : goal.returns
returns c = λ files rows numbers n w. weighed_expands w
