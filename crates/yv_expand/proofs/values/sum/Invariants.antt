use Rattle.std.proofs.Common.{◌≡◌, ◌+◌, ◌≤◌, drop}
use Rattle.yv_expand_statements.specs.Units.{saturate}
use Rattle.yv_expand.specs.InnerLists.{sum_at}
use Rattle.yv_expand.proofs.values.sum.Given as goal

abbrev pub invariant-loop-number : goal.invariant-loop-number
invariant-loop-number l = record {
  fits : l.total ≤ 18446744073709551615;
  sums : saturate (l.total + sum_at l.values (drop l.number-index l.numbers)) ≡ saturate (sum_at l.values l.numbers);
}
