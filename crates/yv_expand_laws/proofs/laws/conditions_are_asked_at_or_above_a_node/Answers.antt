use Rattle.yv_expand_laws.proofs.OuterConditions.{files_ask}
use Rattle.yv_expand_laws.proofs.laws.conditions_are_asked_at_or_above_a_node.Goals as goal

pub returns : goal.returns
returns c = files_ask
