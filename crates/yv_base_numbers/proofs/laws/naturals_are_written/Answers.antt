use Rattle.yv_base_numbers.proofs.Numerals.{naturals}
use Rattle.yv_base_numbers.proofs.laws.naturals_are_written.Goals as goal

pub returns : goal.returns
returns c = naturals
