use Rattle.std.proofs.Common.{◌≡◌, ◌++◌, length, reverse}
use Rattle.yv_expand_rounds.specs.InnerTreeList.{under}
use Rattle.yv_expand_rounds.proofs.tree_list.put.Given as goal

abbrev pub invariant-loop-last : goal.invariant-loop-last
invariant-loop-last l = l.stack.items ++ reverse (under l.parent l.depth l.rest) ≡ l.initial.stack.items ++ reverse (under l.parent l.depth l.items)

abbrev pub decreases-loop-last : goal.decreases-loop-last
decreases-loop-last l = length l.rest
