use Rattle.yv_tree.proofs.draw.Subject.+behind.Given as goal

abbrev pub decreases-behind : goal.decreases-behind
decreases-behind l = l.id.0
