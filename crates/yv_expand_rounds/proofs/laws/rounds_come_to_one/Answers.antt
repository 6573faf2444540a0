use Rattle.yv_expand_rounds.proofs.RoundProgress.{rounds_one}
use Rattle.yv_expand_rounds.proofs.laws.rounds_come_to_one.Goals as goal

pub returns : goal.returns
returns c = rounds_one
