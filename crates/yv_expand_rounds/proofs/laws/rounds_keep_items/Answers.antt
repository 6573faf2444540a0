use Rattle.yv_expand_rounds.proofs.Once.{rounds_times}
use Rattle.yv_expand_rounds.proofs.laws.rounds_keep_items.Goals as goal

pub returns : goal.returns
returns c = rounds_times
