use Rattle.std.proofs.Common.{◌≡◌, List, length, map}
use Rattle.yv_expand_rounds.specs.declared.label.Label.{Label}
use Rattle.yv_expand_rounds.specs.Turns.{State}
use Rattle.yv_expand_rounds.specs.InnerState.{IsAugmentation, count_left}
use Rattle.yv_expand_rounds.proofs.PendingPaths.{Runs}
use Rattle.yv_expand_rounds.proofs.augmentation.Augmentation.run_rounds.Given as goal

abbrev pub invariant-loop-waiting : goal.invariant-loop-waiting
invariant-loop-waiting l = record {
  each : length l.self.ends.items ≡ length l.fn.self.ends.items;
  trails : length l.waiting.trails.items ≡ length l.paths;
  runs : (labels : List Label) (st : State) → IsAugmentation labels st l.fn.self → Runs labels l.first (map (λ p. p.items) l.paths) st l.waiting l.self;
}

abbrev pub decreases-loop-waiting : goal.decreases-loop-waiting
decreases-loop-waiting l = count_left l.self.ends.items
