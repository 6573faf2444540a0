use Rattle.yv_expand_rounds.proofs.Once.{stand}
use Rattle.yv_expand_rounds.proofs.laws.entering_keeps_groups.Goals as goal

pub returns-clause-groups : goal.returns-clause-groups
returns-clause-groups c = λ labels augments first st h. (stand labels augments first st h).groups

pub returns-clause-augments : goal.returns-clause-augments
returns-clause-augments c = λ labels augments first st h. (stand labels augments first st h).ends
