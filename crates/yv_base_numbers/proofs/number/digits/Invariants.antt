use Rattle.std.proofs.Common.{◌≡◌, ◌<◌, ◌^◌, drop}
use Rattle.yv_base_numbers.specs.Numbers.{value_after}
use Rattle.yv_base_numbers.proofs.number.digits.Given as goal

abbrev pub invariant-loop-byte : goal.invariant-loop-byte
invariant-loop-byte l = record {
  same : value_after l.radix l.number (drop l.byte-index l.text) ≡ value_after l.radix l.from l.text;
  small : l.number < 2 ^ 64;
}
