use Rattle.yv_data_leafrefs.proofs.FindingLemmas.{value_met}
use Rattle.yv_data_leafrefs.proofs.laws.value_met.Goals as goal

pub returns : goal.returns
returns c = value_met
