use Rattle.yv_data_leafrefs.proofs.FindingLemmas.{nothing_met}
use Rattle.yv_data_leafrefs.proofs.laws.nothing_met.Goals as goal

pub returns : goal.returns
returns c = nothing_met
