use Rattle.std.proofs.Common.{◌≡◌, [], ℕ, length, Some}
use Rattle.std.specs.List.{slice_get}
use Rattle.yv_expand_rounds.specs.declared.trail.Trail.{Trail}
use Rattle.yv_expand_rounds.proofs.rounds.PathProgress.new.Given as goal

abbrev pub invariant-loop : goal.invariant-loop
invariant-loop l = record {
  count : length l.trails.items ≡ l.counter;
  new : (j : ℕ) (t : Trail) → slice_get l.trails.items j ≡ Some t → t.ends.items ≡ [];
}
