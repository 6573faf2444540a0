use Rattle.yv_node_leafrefs.proofs.Origins.{one_origin}
use Rattle.yv_node_leafrefs.proofs.RetypedTrees.{resolved_once}
use Rattle.yv_node_leafrefs.proofs.laws.a_tree_is_resolved_once.Goals as goal

pub returns : goal.returns
returns c = resolved_once one_origin
