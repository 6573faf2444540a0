use Rattle.std.proofs.Common.{◌≡◌, ℕ, [], length, Some}
use Rattle.std.specs.List.{slice_get}
use Rattle.yv_expand_changes.specs.declared.known_runs.KnownRuns.{KnownRuns}
use Rattle.yv_expand_changes.proofs.item_changes.nothing_known.Given as goal

abbrev pub invariant-loop : goal.invariant-loop
invariant-loop l = record {
  each : length l.known.items ≡ l.index;
  are : (place : ℕ) (k : KnownRuns) → slice_get l.known.items place ≡ Some k → (k.ways.items ≡ []) × (k.numbers.items ≡ []);
}
