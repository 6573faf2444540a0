use Rattle.yv_node_leafrefs.proofs.Origins.{one_origin}
use Rattle.yv_node_leafrefs.proofs.RetypedTrees.{typed_once}
use Rattle.yv_node_leafrefs.proofs.laws.a_tree_is_typed_once.Goals as goal

pub returns : goal.returns
returns c = typed_once one_origin
