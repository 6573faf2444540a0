use Rattle.yv_walk.proofs.Single.{nothing}
use Rattle.yv_walk.proofs.laws.nothing_stands.Goals as goal

pub returns : goal.returns
returns c = nothing
