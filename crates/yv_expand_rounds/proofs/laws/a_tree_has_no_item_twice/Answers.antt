use Rattle.yv_expand_rounds.proofs.Distinct.{no_item_twice, one_row, row_within}
use Rattle.yv_expand_rounds.proofs.laws.a_tree_has_no_item_twice.Goals as goal

pub returns-clause-count : goal.returns-clause-count
returns-clause-count c = no_item_twice

pub returns-clause-within : goal.returns-clause-within
returns-clause-within c = row_within

pub returns-clause-once : goal.returns-clause-once
returns-clause-once c = one_row
