use Rattle.yv_walk.proofs.Stands.{child_numbers}
use Rattle.yv_walk.proofs.laws.child_numbers.Goals as goal

pub returns : goal.returns
returns c = child_numbers
