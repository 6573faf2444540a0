use Rattle.yv_expand_laws.proofs.Turns.{turn_adds, turn_misses}
use Rattle.yv_expand_laws.proofs.laws.a_turn_adds_to_its_target.Goals as goal

pub returns-clause-adds : goal.returns-clause-adds
returns-clause-adds c = λ labels its mark are. turn_adds labels its are mark

pub returns-clause-misses : goal.returns-clause-misses
returns-clause-misses c = λ labels its mark are. turn_misses labels its are mark
