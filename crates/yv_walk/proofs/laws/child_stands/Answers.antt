use Rattle.yv_walk.proofs.Stands.{child_stands}
use Rattle.yv_walk.proofs.laws.child_stands.Goals as goal

pub returns : goal.returns
returns c = child_stands
