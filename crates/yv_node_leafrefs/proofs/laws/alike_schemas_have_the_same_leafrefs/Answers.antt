use Rattle.yv_node_leafrefs.proofs.Alike.{leafrefs_alike}
use Rattle.yv_node_leafrefs.proofs.laws.alike_schemas_have_the_same_leafrefs.Goals as goal

pub returns : goal.returns
returns c = leafrefs_alike
