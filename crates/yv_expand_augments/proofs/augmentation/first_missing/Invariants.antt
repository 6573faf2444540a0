use Rattle.std.proofs.Common.{List, None}
use Rattle.yv_text_statement.specs.Order.{Among, IsLeast}
use Rattle.yv_link_scopes.specs.Views.{rows_in}
use Rattle.yv_expand_rounds.specs.declared.label.Label.{Label}
use Rattle.yv_expand_rounds.specs.Turns.{State}
use Rattle.yv_expand_rounds.specs.InnerState.{IsAugmentation}
use Rattle.yv_expand_augments.specs.InnerSchedule.{added_to}
use Rattle.yv_expand_augments.proofs.AugmentStretches.{Misses}
use Rattle.yv_expand_augments.proofs.augmentation.first_missing.Given as goal

abbrev pub invariant-loop-it : goal.invariant-loop-it
invariant-loop-it l = (labels : List Label) (st : State) → IsAugmentation labels st l.augmentation
    → IsLeast (Among l.idle (Misses (rows_in l.plan.rows.now) (added_to labels st l.end l.spot.group) l.idle) l.it-index) None
