use Rattle.yv_expand_rounds.proofs.Once.{turn_ends}
use Rattle.yv_expand_rounds.proofs.laws.turns_keep_augments.Goals as goal

pub returns : goal.returns
returns c = λ labels number start limit names st. turn_ends labels number start limit names st
