use Rattle.yv_node_leafrefs.proofs.LinkLeading.{links_lead}
use Rattle.yv_node_leafrefs.proofs.link_laws.links_lead.Goals as goal

pub returns : goal.returns
returns c = links_lead
