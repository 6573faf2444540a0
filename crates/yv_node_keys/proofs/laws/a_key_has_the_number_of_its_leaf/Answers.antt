use Rattle.yv_node_keys.proofs.Meeting.{key_is}
use Rattle.yv_node_keys.proofs.laws.a_key_has_the_number_of_its_leaf.Goals as goal

pub returns : goal.returns
returns c = λ ts list t s at. key_is ts list t s at
