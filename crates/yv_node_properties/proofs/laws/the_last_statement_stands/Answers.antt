use Rattle.std.proofs.Common.{refl}
use Rattle.yv_node_properties.proofs.Later.{later}
use Rattle.yv_node_properties.proofs.laws.the_last_statement_stands.Goals as goal

pub returns-clause-none : goal.returns-clause-none
returns-clause-none c = λ files. refl

pub returns-clause-more : goal.returns-clause-more
returns-clause-more c = λ files n ns. later files n ns
