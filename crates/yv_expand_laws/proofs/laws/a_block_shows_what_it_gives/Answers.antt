use Rattle.yv_expand_laws.proofs.Turns.{block_shows_all}
use Rattle.yv_expand_laws.proofs.laws.a_block_shows_what_it_gives.Goals as goal

pub returns : goal.returns
returns c = λ labels its mark are below g lo hi n e block st f comes marked may empty has. block_shows_all labels its mark are below g st comes marked may empty has
