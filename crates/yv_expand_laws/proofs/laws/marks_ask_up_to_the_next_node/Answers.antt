use Rattle.yv_expand_laws.proofs.MarkDescent.{marks_ask}
use Rattle.yv_expand_laws.proofs.laws.marks_ask_up_to_the_next_node.Goals as goal

pub returns : goal.returns
returns c = marks_ask
