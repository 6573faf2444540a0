use Rattle.yv_data_leafrefs.proofs.FindingLemmas.{object_met}
use Rattle.yv_data_leafrefs.proofs.laws.object_met.Goals as goal

pub returns : goal.returns
returns c = object_met
