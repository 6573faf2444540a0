use Rattle.yv_node_keys.proofs.Meeting.{path_is}
use Rattle.yv_node_keys.proofs.laws.a_path_has_the_number_of_its_leaf.Goals as goal

pub returns : goal.returns
returns c = λ ts list t path at. path_is ts list t path at
