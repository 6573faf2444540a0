use Rattle.yv_node_leafrefs.proofs.RetypedTrees.{rows_typed}
use Rattle.yv_node_leafrefs.proofs.laws.rows_are_typed.Goals as goal

pub returns : goal.returns
returns c = rows_typed
