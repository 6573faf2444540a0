use Rattle.yv_node_leafrefs.proofs.RetypedTrees.{tops_typed}
use Rattle.yv_node_leafrefs.proofs.laws.tops_are_typed.Goals as goal

pub returns : goal.returns
returns c = tops_typed
