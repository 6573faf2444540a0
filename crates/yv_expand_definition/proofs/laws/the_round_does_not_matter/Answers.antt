use Rattle.yv_expand_definition.proofs.AugmentOrder.{in_one_order}
use Rattle.yv_expand_definition.proofs.laws.the_round_does_not_matter.Goals as goal

pub returns : goal.returns
returns c = in_one_order
