use Rattle.yv_expand_changes.proofs.FinalItemSet.{Entered}
use Rattle.yv_expand_changes.proofs.refusals.items_of.Given as goal

abbrev pub invariant-loop-row : goal.invariant-loop-row
invariant-loop-row l = Entered l.tree l.row-index l.items
