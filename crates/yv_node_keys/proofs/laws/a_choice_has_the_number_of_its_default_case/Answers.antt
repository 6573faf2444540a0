use Rattle.yv_node_keys.proofs.Meeting.{case_is}
use Rattle.yv_node_keys.proofs.laws.a_choice_has_the_number_of_its_default_case.Goals as goal

pub returns : goal.returns
returns c = λ ts choice t at. case_is ts choice t at
