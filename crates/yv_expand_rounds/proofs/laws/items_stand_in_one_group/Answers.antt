use Rattle.yv_expand_rounds.proofs.Distinct.{one_group, row_in}
use Rattle.yv_expand_rounds.proofs.laws.items_stand_in_one_group.Goals as goal

pub returns-clause-below : goal.returns-clause-below
returns-clause-below c = row_in

pub returns-clause-one : goal.returns-clause-one
returns-clause-one c = one_group
