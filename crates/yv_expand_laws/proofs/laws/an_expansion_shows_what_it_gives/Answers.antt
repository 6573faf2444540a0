use Rattle.yv_expand_laws.proofs.ExpansionStart.{start_shows}
use Rattle.yv_expand_laws.proofs.laws.an_expansion_shows_what_it_gives.Goals as goal

pub returns : goal.returns
returns c = start_shows
