use Rattle.yv_expand_laws.proofs.Rounds.{round_adds}
use Rattle.yv_expand_laws.proofs.laws.a_round_adds_to_its_target.Goals as goal

pub returns : goal.returns
returns c = λ labels its giver_of are. round_adds labels its are giver_of
