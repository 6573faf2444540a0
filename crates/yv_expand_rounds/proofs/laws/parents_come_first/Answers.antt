use Rattle.yv_expand_rounds.proofs.Parents.{parents_first}
use Rattle.yv_expand_rounds.proofs.laws.parents_come_first.Goals as goal

pub returns : goal.returns
returns c = parents_first
