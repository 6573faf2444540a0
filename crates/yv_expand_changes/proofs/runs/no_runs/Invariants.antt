use Rattle.std.proofs.Common.{◌≡◌, ℕ, [], length, get_or}
use Rattle.yv_expand_changes.specs.InnerLists.{lists_of}
use Rattle.yv_expand_changes.proofs.runs.no_runs.Given as goal

abbrev pub invariant-loop : goal.invariant-loop
invariant-loop l = record {
  each : length l.runs.items ≡ l.counter;
  none : (k : ℕ) → get_or (lists_of l.runs.items) k [] ≡ [];
}
