use Rattle.std.proofs.Common.{◌≡◌, length}
use Rattle.yv_link_scopes.specs.Views.{rows_in}
use Rattle.yv_type_chains.specs.InnerMarks.{Meets}
use Rattle.yv_type_chains.proofs.BlockMarks.{MarkedUpTo}
use Rattle.yv_type_chains.proofs.draft.Draft.mark_satisfied.Given as goal

abbrev pub invariant-loop-entry : goal.invariant-loop-entry
invariant-loop-entry l = record {
  each : length l.marks.items ≡ length (rows_in l.self.rows.now);
  told : MarkedUpTo (Meets (rows_in l.self.rows.now)) (rows_in l.self.rows.now) l.entry-index l.marks.items;
}
