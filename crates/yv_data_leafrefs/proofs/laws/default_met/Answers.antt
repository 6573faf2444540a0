use Rattle.yv_data_leafrefs.proofs.FindingLemmas.{default_met}
use Rattle.yv_data_leafrefs.proofs.laws.default_met.Goals as goal

pub returns : goal.returns
returns c = default_met
