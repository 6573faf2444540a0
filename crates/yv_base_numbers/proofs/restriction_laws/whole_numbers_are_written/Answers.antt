use Rattle.yv_base_numbers.proofs.RestrictionWholes.{written}
use Rattle.yv_base_numbers.proofs.restriction_laws.whole_numbers_are_written.Goals as goal

pub returns : goal.returns
returns c = written
