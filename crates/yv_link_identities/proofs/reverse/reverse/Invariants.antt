use Rattle.yv_link_identities.proofs.GraphReversal.{Reversing}
use Rattle.yv_link_identities.proofs.reverse.reverse.Given as goal

abbrev pub invariant-loop-node : goal.invariant-loop-node
invariant-loop-node l = Reversing l.graph l.node l.back.items
