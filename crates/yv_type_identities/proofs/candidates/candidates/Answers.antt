use Rattle.std.proofs.Common.{◌≡◌, Some, length, sym, ◌∙◌, ap, arith, map}
use Rattle.std.specs.List.{slice_get}
use Rattle.yv_link_scopes.specs.Files.{brief_of}
use Rattle.yv_link_scopes.specs.RowList.{rows_of}
use Rattle.yv_link_scopes.specs.Rows.{row}
use Rattle.yv_link.specs.LinkedFiles.{truth_in}
use Rattle.yv_type_identities.specs.InnerCandidates.{passes}
use Rattle.yv_type_identities.proofs.StatementCandidates.{gathered_none, gathered_more, gathered_same, all_candidates}
use Rattle.yv_type_identities.proofs.RowLoop.{row_read, rows_count}
use Rattle.yv_type_identities.proofs.candidates.candidates.Goals as goal
use Rattle.yv_type_identities.proofs.candidates.candidates.Goals.{then-passes+in_ok-candidate+in_ok-push, else-passes}

pub loop-at-init : goal.loop-at-init
loop-at-init c files choice t = gathered_none (map brief_of files) (rows_of files) _ c.new-candidates.result.items c.new-candidates.ensures.items

pub loop-at-preserved : goal.loop-at-preserved
loop-at-preserved c files choice t =
    let same : map row c.entries-entry-items.result.now ≡ rows_of files = c.entries-entry-items.ensures ∙ ap rows_of (c.rows.ensures files choice t) in
    let at : slice_get (rows_of files) c.loop-at.at ≡ Some (row c.entry-item.result) = row_read row c.entries-entry-items.result.now (rows_of files) c.loop-at.at c.entry-item.result same c.loop-at-test.true c.entry-item.is in
    elim c.if-passes.branch [
      | then-passes+in_ok-candidate+in_ok-push w ↦ rw w.candidates-is (gathered_more (map brief_of files) (rows_of files) (passes choice (map brief_of files) c.in_ok-off.off) c.loop-at.at (row c.entry-item.result) w.in_ok-candidate.field-0 c.loop-at.candidates.items w.push.new.self.items at (sym (c.passes.ensures files choice t) ∙ w.if-passes.true) (w.in_ok-candidate.ensures files choice t (c.in_ok-module_files.ensures files choice t)) w.in_ok-push.ensures.items (c.loop-at.invariant files choice t))
      | else-passes w ↦ rw w.candidates-is (gathered_same (map brief_of files) (rows_of files) (passes choice (map brief_of files) c.in_ok-off.off) c.loop-at.at (row c.entry-item.result) c.loop-at.candidates.items at (sym (c.passes.ensures files choice t) ∙ w.if-passes.false) (c.loop-at.invariant files choice t))
    ]

pub returns : goal.returns
returns c files choice t =
    let same : map row c.entries-entry-items.result.now ≡ rows_of files = c.entries-entry-items.ensures ∙ ap rows_of (c.rows.ensures files choice t) in
    let last : c.loop-at.at ≡ length (rows_of files) = omega (arith, rows_count row c.entries-entry-items.result.now (rows_of files) same, c.loop-at-test.false, c.loop-at.auto.at-end) in
    all_candidates (truth_in c.args.linked.now) choice files c.in_ok-off.off (c.in_ok-off.ensures files choice t) c.loop-at.at c.loop-at.candidates.items last (c.loop-at.invariant files choice t)
