use Rattle.yv_base_numbers.proofs.AssignedNumbers.{numbers_right, numbers_same, numbers_there}
use Rattle.yv_base_numbers.proofs.restriction_laws.numbers_are_assigned.Goals as goal

pub returns-clause-right : goal.returns-clause-right
returns-clause-right c = numbers_right

pub returns-clause-same : goal.returns-clause-same
returns-clause-same c = numbers_same

pub returns-clause-there : goal.returns-clause-there
returns-clause-there c = numbers_there
