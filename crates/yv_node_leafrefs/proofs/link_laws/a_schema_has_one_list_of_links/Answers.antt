use Rattle.yv_node_leafrefs.proofs.LinkAlike.{one_list}
use Rattle.yv_node_leafrefs.proofs.link_laws.a_schema_has_one_list_of_links.Goals as goal

pub returns : goal.returns
returns c = one_list
