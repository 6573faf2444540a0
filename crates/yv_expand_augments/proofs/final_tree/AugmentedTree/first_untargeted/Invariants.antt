use Rattle.std.proofs.Common.{List}
use Rattle.yv_text_statement.specs.Order.{Among, IsLeast}
use Rattle.yv_expand.specs.Tree.{Item}
use Rattle.yv_expand_rounds.specs.Turns.{State}
use Rattle.yv_expand_uses.specs.Ends.{end_at}
use Rattle.yv_expand_augments.specs.FinalItems.{AreAugmentedTree}
use Rattle.yv_expand_uses.specs.Spots.{Whole, layout_of}
use Rattle.yv_expand_augments.specs.MissingTargets.{MissesAt}
use Rattle.yv_expand_augments.proofs.final_tree.AugmentedTree.first_untargeted.Given as goal

abbrev pub invariant-loop-row : goal.invariant-loop-row
invariant-loop-row l = (w : Whole) (items : List Item) (st : State) → AreAugmentedTree w items st l.self
    → IsLeast (Among l.self.tree.items (λ place x. MissesAt w (layout_of w items) (end_at items x.number) x.number) l.row-index) l.least
