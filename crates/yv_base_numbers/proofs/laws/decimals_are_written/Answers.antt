use Rattle.yv_base_numbers.proofs.Decimals.{decimals}
use Rattle.yv_base_numbers.proofs.laws.decimals_are_written.Goals as goal

pub returns : goal.returns
returns c = decimals
