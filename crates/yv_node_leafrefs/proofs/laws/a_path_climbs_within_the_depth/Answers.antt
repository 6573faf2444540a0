use Rattle.yv_node_leafrefs.proofs.Lawful.{depth}
use Rattle.yv_node_leafrefs.proofs.laws.a_path_climbs_within_the_depth.Goals as goal

pub returns : goal.returns
returns c = depth
