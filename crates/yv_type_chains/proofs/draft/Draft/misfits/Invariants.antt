use Rattle.std.proofs.Common.{◌≡◌, length}
use Rattle.yv_link_scopes.specs.Views.{files_in, rows_in}
use Rattle.yv_type_chains.specs.Refusals.{IsMisfit}
use Rattle.yv_type_chains.specs.InnerTables.{AreBased}
use Rattle.yv_type_chains.proofs.BlockMarks.{MarkedUpTo}
use Rattle.yv_type_chains.proofs.draft.Draft.misfits.Given as goal

abbrev pub invariant-loop-entry : goal.invariant-loop-entry
invariant-loop-entry l = record {
  each : length l.marks.items ≡ length (rows_in l.self.rows.now);
  told : AreBased (files_in l.self.rows.now) (rows_in l.self.rows.now) l.bases
      → MarkedUpTo (IsMisfit (files_in l.self.rows.now) (rows_in l.self.rows.now)) (rows_in l.self.rows.now) l.entry-index l.marks.items;
}
