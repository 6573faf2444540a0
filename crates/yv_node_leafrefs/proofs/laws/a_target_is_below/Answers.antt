use Rattle.yv_node_leafrefs.proofs.Lawful.{below}
use Rattle.yv_node_leafrefs.proofs.laws.a_target_is_below.Goals as goal

pub returns : goal.returns
returns c = below
