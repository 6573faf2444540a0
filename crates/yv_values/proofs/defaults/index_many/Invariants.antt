use Rattle.std.proofs.Common.{◌≡◌, take}
use Rattle.yv_values.specs.InnerDefaults.{KeepsAlone}
use Rattle.yv_values.specs.Same.{has_same}
use Rattle.yv_values.proofs.defaults.index_many.Given as goal

abbrev pub invariant-loop-value : goal.invariant-loop-value
invariant-loop-value l = record {
  kept : KeepsAlone l.index (take l.value-index l.values);
  repeated : l.repeats ≡ has_same (take l.value-index l.values);
}
