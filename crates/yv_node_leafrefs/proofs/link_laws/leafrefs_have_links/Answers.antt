use Rattle.yv_node_leafrefs.proofs.LeafrefLinks.{has_reference}
use Rattle.yv_node_leafrefs.proofs.link_laws.leafrefs_have_links.Goals as goal

pub returns : goal.returns
returns c = λ s links n target are hold refers begins. has_reference s links n target are hold refers begins
