use Rattle.std.proofs.Common.{◌≡◌, ◌+◌, ◌≤◌, ℕ, List, drop, length}
use Rattle.yv_text_statement.specs.Order.{Among, IsLeast}
use Rattle.yv_link_scopes.specs.Views.{rows_in}
use Rattle.yv_expand_rounds.specs.declared.label.Label.{Label}
use Rattle.yv_expand_rounds.specs.Turns.{State}
use Rattle.yv_expand_rounds.specs.InnerState.{IsAugmentation}
use Rattle.yv_expand_uses.specs.InnerPlan.{whole_in}
use Rattle.yv_expand_augments.specs.InnerSchedule.{AreStretches, IsReady}
use Rattle.yv_expand_uses.specs.Spots.{copies_of}
use Rattle.yv_expand_augments.specs.MissingTargets.{MissesInTurn, next_number}
use Rattle.yv_expand_uses.specs.AugmentOrder.{augments_in}
use Rattle.yv_expand_augments.proofs.augmentation.turns.Given as goal

abbrev pub invariant-loop-stretch : goal.invariant-loop-stretch
invariant-loop-stretch l = record {
  at : ℕ;
  left : AreStretches (whole_in l.plan) l.spot.statement l.spot.module_file at (length (augments_in (rows_in l.plan.rows.now) l.spot.statement))
      (drop l.stretch-index l.stretch-items);
  number : l.number ≡ next_number (rows_in l.plan.rows.now) l.spot at;
  each : (labels : List Label) (st : State) → IsAugmentation labels st l.fn.augmentation → length labels ≡ length l.plan.items.now
      → l.spot.first + copies_of (rows_in l.plan.rows.now) l.spot ≤ length st.ends
      → IsReady (whole_in l.plan) labels l.spot st at l.number l.augmentation
      × IsLeast (Among (augments_in (rows_in l.plan.rows.now) l.spot.statement) (MissesInTurn (whole_in l.plan) labels l.spot l.end st) at) l.least;
}
