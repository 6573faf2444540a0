use Rattle.yv_expand_rounds.proofs.RoundProgress.{nowhere}
use Rattle.yv_expand_rounds.proofs.laws.what_is_left_leads_nowhere.Goals as goal

pub returns : goal.returns
returns c = nowhere
