use Rattle.yv_base_numbers.proofs.Wholes.{integers}
use Rattle.yv_base_numbers.proofs.laws.integers_are_written.Goals as goal

pub returns : goal.returns
returns c = integers
