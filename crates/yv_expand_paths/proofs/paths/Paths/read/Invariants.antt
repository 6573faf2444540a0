use Rattle.std.proofs.Common.{◌≡◌, ℕ, ◌<◌, length}
use Rattle.std.specs.List.{slice_get}
use Rattle.yv_link_scopes.specs.Views.{files_in, rows_in}
use Rattle.yv_expand_paths.specs.InnerSteps.{path_at}
use Rattle.yv_expand_paths.specs.PathTables.{steps_of}
use Rattle.yv_expand_paths.proofs.paths.Paths.read.Given as goal

abbrev pub invariant-loop-entry : goal.invariant-loop-entry
invariant-loop-entry l = record {
  each : length l.paths.items ≡ l.entry-index;
  steps : (k : ℕ) → k < l.entry-index → steps_of (slice_get l.paths.items k) ≡ path_at (files_in l.rows) (rows_in l.rows) (slice_get (rows_in l.rows) k);
}
