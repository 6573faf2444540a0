use Rattle.std.proofs.Common.{◌≡◌, ◌≤◌, ◌-◌, ◌++◌, length, vec_capacity, None}
use Rattle.yv_link_scopes.specs.Views.{files_in, rows_in}
use Rattle.yv_expand.specs.Tree.{Tree, item_list}
use Rattle.yv_expand.specs.InnerItems.{Give, origins}
use Rattle.yv_expand.proofs.ItemStack.{ParentsBelow, Whole}
use Rattle.yv_expand.proofs.items.add_items.Given as goal

abbrev pub invariant-loop-item : goal.invariant-loop-item
invariant-loop-item l = record {
  kept : l.expansion.limit ≡ l.fn.expansion.limit;
  stack_room : vec_capacity l.fn.stack ≤ vec_capacity l.stack;
  items_room : l.fn.expansion.capacity ≤ l.expansion.capacity;
  parents : ParentsBelow (length l.expansion.items) l.stack.items;
  pending : (t : Tree) → Give (files_in l.rows) (rows_in l.rows) (origins l.firsts) t → Whole (files_in l.rows) (rows_in l.rows) l.stack.items l.expansion.items
      (l.fn.expansion.items ++ item_list None (length l.fn.expansion.items) t);
}

abbrev pub decreases-loop-item : goal.decreases-loop-item
decreases-loop-item l = l.expansion.limit - length l.expansion.items
