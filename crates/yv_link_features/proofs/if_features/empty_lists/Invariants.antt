use Rattle.std.proofs.Common.{◌≡◌, ℕ, [], length}
use Rattle.yv_link_features.specs.InnerGraph.{numbers_at}
use Rattle.yv_link_features.proofs.if_features.empty_lists.Given as goal

abbrev pub invariant-loop : goal.invariant-loop
invariant-loop l = record { each : length l.lists.items ≡ l.counter; empty : (k : ℕ) → numbers_at l.lists.items k ≡ [] }
