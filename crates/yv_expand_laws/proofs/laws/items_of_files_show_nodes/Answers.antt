use Rattle.yv_expand_laws.proofs.ExpansionNodes.{items_show}
use Rattle.yv_expand_laws.proofs.laws.items_of_files_show_nodes.Goals as goal

pub returns : goal.returns
returns c = items_show
