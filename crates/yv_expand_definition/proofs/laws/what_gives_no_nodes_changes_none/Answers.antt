use Rattle.yv_expand_definition.proofs.Nothing.{adds_none, gives_none, inserts_none}
use Rattle.yv_expand_definition.proofs.laws.what_gives_no_nodes_changes_none.Goals as goal

pub returns-clause-gives : goal.returns-clause-gives
returns-clause-gives c = λ files module_file under numbers m gives all. gives_none files module_file gives all

pub returns-clause-adds : goal.returns-clause-adds
returns-clause-adds c = adds_none

pub returns-clause-inserts : goal.returns-clause-inserts
returns-clause-inserts c = inserts_none
