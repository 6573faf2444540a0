use Rattle.yv_node_leafrefs.proofs.Lawful.{one_target}
use Rattle.yv_node_leafrefs.proofs.laws.a_leafref_has_one_target.Goals as goal

pub returns : goal.returns
returns c = one_target
