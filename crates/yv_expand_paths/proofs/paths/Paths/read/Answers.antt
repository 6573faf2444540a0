use Rattle.std.proofs.Common.{◌≡◌, ℕ, List, Some, refl, sym, ◌∙◌, ap, length, arith}
use Rattle.std.specs.List.{slice_get}
use Rattle.std.proofs.lemmas.List.{length_push}
use Rattle.yv_link_scopes.specs.Files.{Briefs}
use Rattle.yv_link_scopes.specs.Rows.{Row, row}
use Rattle.yv_link_scopes.specs.Views.{files_in, rows_in}
use Rattle.yv_expand_paths.specs.InnerSteps.{path_at}
use Rattle.yv_expand_paths.specs.PathTables.{steps_of}
use Rattle.yv_expand_paths.proofs.PathReading.{row_read, rows_count, each_more, each_all}
use Rattle.yv_expand_paths.proofs.paths.Paths.read.Goals as goal

pub loop-entry-preserved : goal.loop-entry-preserved
loop-entry-preserved c =
    let files : Briefs = files_in c.args.rows.now in
    let rows : List Row = rows_in c.args.rows.now in
    let r : Row = row c.entry-item.result in
    let i : ℕ = c.loop-entry.entry-index in
    let at : slice_get rows i ≡ Some r = row_read row _ rows i c.entry-item.result c.entries-entry-items.ensures c.loop-entry-test.true c.entry-item.is in
    record {
      each = ap length c.in_ok-push.ensures.items ∙ length_push c.loop-entry.paths.items _ ∙ omega (arith, c.loop-entry.invariant.each);
      steps = each_more steps_of (λ k. path_at files rows (slice_get rows k)) c.loop-entry.paths.items c.push.new.self.items _ i c.loop-entry.invariant.each c.in_ok-push.ensures.items
          (c.in_ok-path_at.ensures files rows c.in_ok-module_files.ensures.table c.requires ∙ ap (path_at files rows) (sym at)) c.loop-entry.invariant.steps;
    }

pub returns : goal.returns
returns c =
    let files : Briefs = files_in c.args.rows.now in
    let rows : List Row = rows_in c.args.rows.now in
    let long : length c.loop-entry.paths.items ≡ length rows = omega (arith, c.loop-entry.invariant.each, c.loop-entry-test.false, c.loop-entry.auto.entry-index-end, rows_count row _ rows c.entries-entry-items.ensures) in
    record { steps = each_all steps_of (path_at files rows) c.loop-entry.paths.items rows long refl (λ k h. c.loop-entry.invariant.steps k (omega (arith, h, c.loop-entry.invariant.each))) }
