use Rattle.yv_data_leafrefs.proofs.FindingLemmas.{met_behind}
use Rattle.yv_data_leafrefs.proofs.laws.met_behind.Goals as goal

pub returns : goal.returns
returns c = met_behind
