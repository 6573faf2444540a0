use Rattle.std.proofs.Common.{◌≡◌, ◌≤◌, ◌+◌, List, length, map, if◌then◌else◌}
use Rattle.yv_expand_rounds.specs.declared.label.Label.{Label}
use Rattle.yv_expand_rounds.specs.Turns.{State}
use Rattle.yv_expand_rounds.specs.InnerState.{IsAugmentation, count_left}
use Rattle.yv_expand_rounds.specs.InnerPendingPaths.{AreWaiting}
use Rattle.yv_expand_rounds.proofs.PendingPaths.{Resumes}
use Rattle.yv_expand_rounds.proofs.augmentation.Augmentation.round.Given as goal

abbrev pub invariant-loop-index : goal.invariant-loop-index
invariant-loop-index l = record {
  each : length l.self.ends.items ≡ length l.fn.self.ends.items;
  trails : length l.waiting.trails.items ≡ length l.fn.waiting.trails.items;
  fewer : count_left l.self.ends.items + (if l.any then 1 else 0) ≤ count_left l.fn.self.ends.items;
  resumes : (labels : List Label) (st : State) → IsAugmentation labels st l.fn.self → AreWaiting labels st.groups (map (λ p. p.items) l.paths) l.fn.waiting
      → Resumes labels l.first (map (λ p. p.items) l.paths) st l.index l.any l.waiting l.self;
}
