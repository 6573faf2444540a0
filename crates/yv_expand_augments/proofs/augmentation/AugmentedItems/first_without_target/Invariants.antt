use Rattle.std.proofs.Common.{List}
use Rattle.yv_text_statement.specs.Order.{Among, IsLeast}
use Rattle.yv_text_statement.specs.declared.refusal.Code.TheVariants as code
use Rattle.yv_link_scopes.specs.Views.{rows_in}
use Rattle.yv_expand.specs.Tree.{Item}
use Rattle.yv_expand_rounds.specs.Turns.{State}
use Rattle.yv_expand_augments.specs.Refusals.{HasNoTarget, RefusesIf}
use Rattle.yv_expand_augments.specs.FinalItems.{AreAugmentedItems}
use Rattle.yv_expand_uses.specs.Spots.{Whole}
use Rattle.yv_expand_augments.proofs.augmentation.AugmentedItems.first_without_target.Given as goal

abbrev pub invariant-loop-place : goal.invariant-loop-place
invariant-loop-place l = (w : Whole) (items : List Item) (st : State) → AreAugmentedItems w items st l.self
    → IsLeast (Among l.augments (λ place a. RefusesIf (rows_in l.rows) code.AugmentTarget (HasNoTarget w items st place) a) l.place) l.least
