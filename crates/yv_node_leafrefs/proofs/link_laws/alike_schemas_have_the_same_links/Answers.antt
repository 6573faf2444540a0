use Rattle.yv_node_leafrefs.proofs.LinkAlike.{same_links}
use Rattle.yv_node_leafrefs.proofs.link_laws.alike_schemas_have_the_same_links.Goals as goal

pub returns : goal.returns
returns c = same_links
