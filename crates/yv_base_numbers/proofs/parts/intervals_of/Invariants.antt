use Rattle.std.proofs.Common.{◌≡◌, map, drop}
use Rattle.yv_base_numbers.specs.RestrictedIntervals.{interval}
use Rattle.yv_base_numbers.specs.InnerParts.{all_of}
use Rattle.yv_base_numbers.specs.Restrictions.{part_of}
use Rattle.yv_base_numbers.proofs.RestrictionParts.{behind}
use Rattle.yv_base_numbers.proofs.parts.intervals_of.Given as goal

abbrev pub invariant-loop-piece : goal.invariant-loop-piece
invariant-loop-piece l = behind (map interval l.spans.items) (all_of (part_of l.digits (map interval l.base)) (map (λ w. w.now) (drop l.piece-index l.pieces))) ≡ all_of (part_of l.digits (map interval l.base)) (map (λ w. w.now) l.pieces)
