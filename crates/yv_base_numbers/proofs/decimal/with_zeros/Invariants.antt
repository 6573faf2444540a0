use Rattle.std.proofs.Common.{◌≡◌, ◌<◌, ◌*◌, ◌^◌, ◌-◌}
use Rattle.yv_base_numbers.proofs.decimal.with_zeros.Given as goal

abbrev pub invariant-loop-place : goal.invariant-loop-place
invariant-loop-place l = record {
  same : l.number * 10 ^ (l.count - l._place) ≡ l.from * 10 ^ l.count;
  small : l.number < 2 ^ 64;
}
