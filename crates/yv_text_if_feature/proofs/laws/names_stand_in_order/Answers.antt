use Rattle.yv_text_if_feature.proofs.ConditionNames.{of_expression}
use Rattle.yv_text_if_feature.proofs.laws.names_stand_in_order.Goals as goal

pub returns : goal.returns
returns c = λ text made. of_expression
