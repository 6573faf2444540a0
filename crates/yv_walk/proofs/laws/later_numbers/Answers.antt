use Rattle.yv_walk.proofs.Stands.{later_numbers}
use Rattle.yv_walk.proofs.laws.later_numbers.Goals as goal

pub returns : goal.returns
returns c = later_numbers
