use Rattle.std.proofs.Common.{◌+◌, ℕ, List, length}
use Rattle.std.specs.List.{sum_by}
use Rattle.yv_expand_rounds.specs.InnerTreeList.{StandAtMostOnce, groups_in}
use Rattle.yv_expand_rounds.proofs.GroupRemoval.{AreFresh, Completes}
use Rattle.yv_expand_rounds.proofs.Depths.{NoDeeper}
use Rattle.yv_expand_rounds.proofs.tree_list.list.Given as goal

abbrev pub invariant-loop-row : goal.invariant-loop-row
invariant-loop-row l = record {
  fresh : StandAtMostOnce (groups_in l.fn.groups.items) → AreFresh (groups_in l.fn.groups.items) (groups_in l.groups.items) l.stack.items;
  completes : StandAtMostOnce (groups_in l.fn.groups.items) → Completes l.labels (groups_in l.fn.groups.items) l.stack.items l.rows.items;
  shallow : NoDeeper (length l.rows.items + 1) l.stack.items;
}

abbrev pub decreases-loop-row : goal.decreases-loop-row
decreases-loop-row l = length l.stack.items + sum_by (λ (ms : List ℕ). length ms) (groups_in l.groups.items)
