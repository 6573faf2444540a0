use Rattle.yv_node_leafrefs.proofs.LeafrefLinks.{has_link}
use Rattle.yv_node_leafrefs.proofs.link_laws.required_leafrefs_have_links.Goals as goal

pub returns : goal.returns
returns c = λ s links n target are hold refers required begins. has_link s links n target are hold refers required begins
