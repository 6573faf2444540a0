use Rattle.std.proofs.Common.{◌≡◌, ◌<◌, ℕ, Some}
use Rattle.std.specs.List.{slice_get}
use Rattle.yv_link_scopes.specs.Rows.{Row}
use Rattle.yv_link_scopes.specs.Views.{rows_in}
use Rattle.yv_note_patterns.specs.PatternFailure.{IsNoPattern}
use Rattle.yv_note_patterns.proofs.patterns.first_pattern.Given as goal

abbrev pub invariant-loop-entry : goal.invariant-loop-entry
invariant-loop-entry l = (k : ℕ) (r : Row) → k < l.entry-index → slice_get (rows_in l.rows) k ≡ Some r → IsNoPattern r
