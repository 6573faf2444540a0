use Rattle.yv_expand_rounds.proofs.group.Group.count_before.Goals as goal

pub returns-then-self-clause-behind : goal.returns-then-self-clause-behind
returns-then-self-clause-behind c = λ labels members is. c.front.ensures.behind labels members is c.if-self.true
