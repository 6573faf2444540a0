use Rattle.yv_expand_uses.proofs.MarkUniqueness.{marks_one}
use Rattle.yv_expand_uses.proofs.laws.if_features_have_one_answer.Goals as goal

pub returns : goal.returns
returns c = marks_one
