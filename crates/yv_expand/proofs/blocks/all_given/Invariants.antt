use Rattle.std.proofs.Common.{◌≡◌, ◌<◌, ℕ, length}
use Rattle.std.specs.List.{flat_map}
use Rattle.yv_expand.specs.InnerItems.{numbers_at}
use Rattle.yv_expand.proofs.blocks.all_given.Given as goal

abbrev pub invariant-loop-numbers : goal.invariant-loop-numbers
invariant-loop-numbers l = record {
  each : length l.all.items ≡ l.numbers-index;
  given : (k : ℕ) → k < l.numbers-index → numbers_at l.all.items k ≡ flat_map (numbers_at l.own) (numbers_at l.augments k);
}
