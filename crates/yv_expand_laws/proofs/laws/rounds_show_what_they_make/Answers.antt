use Rattle.yv_expand_laws.proofs.WholeRounds.{rounds_show}
use Rattle.yv_expand_laws.proofs.laws.rounds_show_what_they_make.Goals as goal

pub returns : goal.returns
returns c = rounds_show
