use Rattle.std.proofs.Common.{◌≡◌, drop}
use Rattle.std.specs.Cmp.Lexicographic.{slice_cmp}
use Rattle.std.specs.Ordering.{nat_cmp}
use Rattle.yv_values.specs.InnerKeys.{numbers_of}
use Rattle.yv_values.proofs.key.compare_numbers.Given as goal

abbrev pub invariant-loop-i : goal.invariant-loop-i
invariant-loop-i l =
    slice_cmp nat_cmp (numbers_of l.one) (numbers_of l.other) ≡ slice_cmp nat_cmp (numbers_of (drop l.i l.one)) (numbers_of (drop l.i l.other))
