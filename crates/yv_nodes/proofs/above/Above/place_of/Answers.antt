use Rattle.yv_nodes.proofs.above.Above.place_of.Goals as goal

pub returns : goal.returns
returns c = λ ls seen. c.place_with.ensures ls seen (c.in_ok-is_key.ensures ls seen)
