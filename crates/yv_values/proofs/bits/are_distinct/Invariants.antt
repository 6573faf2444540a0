use Rattle.std.proofs.Common.{◌≡◌, drop, map}
use Rattle.yv_values.specs.InnerNames.{Ascends}
use Rattle.yv_values.specs.Texts.{are_distinct}
use Rattle.yv_values.proofs.bits.are_distinct.Given as goal

abbrev pub invariant-loop-at : goal.invariant-loop-at
invariant-loop-at l = record {
  same : are_distinct (map (λ w. w.now) (drop l.at l.words)) ≡ are_distinct (map (λ w. w.now) l.words);
  order : Ascends (map (λ w. w.now) (drop l.at l.words));
}
