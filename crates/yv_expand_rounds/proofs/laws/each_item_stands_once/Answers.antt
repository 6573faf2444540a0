use Rattle.yv_expand_rounds.proofs.Once.{entered_once, rounds_once}
use Rattle.yv_expand_rounds.proofs.laws.each_item_stands_once.Goals as goal

pub returns-clause-enters : goal.returns-clause-enters
returns-clause-enters c = entered_once

pub returns-clause-applies : goal.returns-clause-applies
returns-clause-applies c = rounds_once
