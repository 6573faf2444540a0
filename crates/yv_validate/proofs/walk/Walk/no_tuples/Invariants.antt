use Rattle.std.proofs.Common.{◌≡◌, ℕ, [], length}
use Rattle.std.specs.List.{slice_index_or}
use Rattle.yv_validate.proofs.walk.Walk.no_tuples.Given as goal

-- so many indexes, all of them empty
abbrev pub invariant-loop-statement : goal.invariant-loop-statement
invariant-loop-statement l = record {
  same : length l.uniques.items ≡ l._statement-index;
  empty : (j : ℕ) → slice_index_or l.uniques.items j [] ≡ [];
}
