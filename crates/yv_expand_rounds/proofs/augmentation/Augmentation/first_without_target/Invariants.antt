use Rattle.std.proofs.Common.{◌≡◌, List, drop}
use Rattle.yv_expand_rounds.specs.declared.label.Label.{Label}
use Rattle.yv_expand_rounds.specs.Paths.{lesser}
use Rattle.yv_expand_rounds.specs.Turns.{State}
use Rattle.yv_expand_rounds.specs.InnerState.{IsAugmentation}
use Rattle.yv_expand_rounds.specs.InnerMissingTargets.{least_from}
use Rattle.yv_expand_rounds.proofs.augmentation.Augmentation.first_without_target.Given as goal

abbrev pub invariant-loop-number : goal.invariant-loop-number
invariant-loop-number l = (labels : List Label) (st : State) → IsAugmentation labels st l.self
    → lesser l.least (least_from labels st.ends l.number (drop l.number l.places)) ≡ least_from labels st.ends 0 l.places
