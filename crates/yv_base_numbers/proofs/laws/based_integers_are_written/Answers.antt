use Rattle.yv_base_numbers.proofs.Wholes.{based_integers}
use Rattle.yv_base_numbers.proofs.laws.based_integers_are_written.Goals as goal

pub returns : goal.returns
returns c = based_integers
