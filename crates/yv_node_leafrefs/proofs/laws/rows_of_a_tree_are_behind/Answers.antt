use Rattle.yv_node_leafrefs.proofs.Numbering.{behind}
use Rattle.yv_node_leafrefs.proofs.laws.rows_of_a_tree_are_behind.Goals as goal

pub returns : goal.returns
returns c = behind
