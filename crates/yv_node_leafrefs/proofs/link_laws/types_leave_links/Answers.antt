use Rattle.yv_node_leafrefs.proofs.RetypedLinks.{linked_typed}
use Rattle.yv_node_leafrefs.proofs.link_laws.types_leave_links.Goals as goal

pub returns : goal.returns
returns c = linked_typed
