use Rattle.yv_node_leafrefs.proofs.Lawful.{valued}
use Rattle.yv_node_leafrefs.proofs.laws.a_target_has_values.Goals as goal

pub returns : goal.returns
returns c = valued
