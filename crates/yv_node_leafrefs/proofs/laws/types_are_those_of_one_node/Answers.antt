use Rattle.yv_node_leafrefs.proofs.Origins.{one_origin}
use Rattle.yv_node_leafrefs.proofs.laws.types_are_those_of_one_node.Goals as goal

pub returns : goal.returns
returns c = one_origin
