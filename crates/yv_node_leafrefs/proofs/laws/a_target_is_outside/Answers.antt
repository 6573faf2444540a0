use Rattle.yv_node_leafrefs.proofs.Lawful.{outside}
use Rattle.yv_node_leafrefs.proofs.laws.a_target_is_outside.Goals as goal

pub returns : goal.returns
returns c = outside
