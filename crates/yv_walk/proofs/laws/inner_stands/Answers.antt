use Rattle.yv_walk.proofs.Stands.{inner_stands}
use Rattle.yv_walk.proofs.laws.inner_stands.Goals as goal

pub returns : goal.returns
returns c = inner_stands
