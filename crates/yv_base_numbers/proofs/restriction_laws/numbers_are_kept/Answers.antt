use Rattle.yv_base_numbers.proofs.AssignedNumbers.{kept_right, kept_same, kept_there}
use Rattle.yv_base_numbers.proofs.restriction_laws.numbers_are_kept.Goals as goal

pub returns-clause-right : goal.returns-clause-right
returns-clause-right c = kept_right

pub returns-clause-same : goal.returns-clause-same
returns-clause-same c = kept_same

pub returns-clause-there : goal.returns-clause-there
returns-clause-there c = kept_there
