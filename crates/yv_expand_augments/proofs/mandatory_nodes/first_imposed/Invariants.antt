use Rattle.std.proofs.Common.{◌≡◌, ◌≤◌, ℕ, length, drop}
use Rattle.yv_text_statement.specs.Order.{IsLeast}
use Rattle.yv_link_scopes.specs.Views.{rows_in}
use Rattle.yv_expand_augments.specs.MandatoryNodes.{told_in}
use Rattle.yv_expand_augments.specs.InnerMandatoryNodes.{AreShallow, ImposesMandatoryIn, found_in}
use Rattle.yv_base_graph.specs.Marks.{is_marked}
use Rattle.yv_expand_augments.proofs.mandatory_nodes.first_imposed.Given as goal

abbrev pub invariant-loop-left : goal.invariant-loop-left
invariant-loop-left l = record {
  within : l.left ≤ length l.tree;
  found : AreShallow l.tree → (d : ℕ) → is_marked l.found.items d ≡ found_in l.spots l.augments (told_in l.marks) (drop l.left l.tree) d;
  least : AreShallow l.tree → IsLeast (ImposesMandatoryIn (rows_in l.rows) l.spots l.augments (told_in l.marks) (drop l.left l.configured.items) (drop l.left l.tree)) l.least;
}

abbrev pub decreases-loop-left : goal.decreases-loop-left
decreases-loop-left l = l.left
