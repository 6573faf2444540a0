use Rattle.std.proofs.Common.{◌≡◌, ◌<◌, ℕ, length, Some}
use Rattle.std.specs.List.{slice_get}
use Rattle.yv_link_scopes.specs.Rows.{Row}
use Rattle.yv_link_scopes.specs.Views.{rows_in}
use Rattle.yv_type_chains.specs.InnerSteps.{AreEdges}
use Rattle.yv_type_chains.specs.InnerTables.{items_at}
use Rattle.yv_type_chains.proofs.draft.Draft.steps.Given as goal

abbrev pub invariant-loop-number : goal.invariant-loop-number
invariant-loop-number l = record {
  each : length l.steps.items ≡ l.number;
  edges : (k : ℕ) (r : Row) → k < l.number → slice_get (rows_in l.self.rows.now) k ≡ Some r → AreEdges (rows_in l.self.rows.now) l.self.follows.items k r (items_at l.steps.items k);
}
