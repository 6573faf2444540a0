use Rattle.std.proofs.Common.{◌≡◌, ◌<◌, ◌≤◌, List, Some, length, sym, ◌∙◌, ap, arith}
use Rattle.std.specs.List.{slice_get}
use Rattle.std.proofs.lemmas.Bool.{false≢true}
use Rattle.std.proofs.lemmas.Option.{slice_get_within}
use Rattle.yv_link_scopes.specs.Rows.{Row, row}
use Rattle.yv_link_scopes.specs.Views.{files_in, lent_in, rows_in}
use Rattle.yv_type_chains.specs.Refusals.{IsMisfit}
use Rattle.yv_type_chains.proofs.Words.{row_read, rows_count}
use Rattle.yv_type_chains.proofs.BlockMarks.{marked_all, marked_more, marked_other}
use Rattle.yv_type_chains.proofs.draft.Draft.misfits.Goals as goal
use Rattle.yv_type_chains.proofs.draft.Draft.misfits.Goals.{then-is_misfit, else-is_misfit}

pub loop-entry-preserved : goal.loop-entry-preserved
loop-entry-preserved c =
    let files = files_in c.args.self.now.rows.now in
    let rows : List Row = rows_in c.args.self.now.rows.now in
    let r : Row = row c.entry-item.result in
    let at : slice_get rows c.loop-entry.entry-index ≡ Some r = row_read row _ rows c.loop-entry.entry-index c.entry-item.result c.entries-entries.ensures c.loop-entry-test.true c.entry-item.is in
    let le = c.blocks_are_nested.ensures (lent_in c.args.self.now.rows.now) c.loop-entry.entry-index r at in
    let inside = slice_get_within rows c.loop-entry.entry-index r at in
    let within : r.scope < length c.loop-entry.marks.items = omega (arith, le, inside, c.loop-entry.invariant.each) in
    elim c.if-is_misfit.branch [
      | then-is_misfit w ↦ record {
        each = ap (λ v. length v.items) w.marks-is ∙ w.mark.ensures.each ∙ c.loop-entry.invariant.each;
        told = λ based. rw w.marks-is (marked_more (IsMisfit files rows) rows c.loop-entry.entry-index r c.loop-entry.marks.items w.mark.new.marks.items at ((c.is_misfit.ensures based).0 w.if-is_misfit.true) (w.mark.ensures.here within) w.mark.ensures.elsewhere (c.loop-entry.invariant.told based));
      }
      | else-is_misfit w ↦ record {
        each = ap (λ v. length v.items) w.marks-is ∙ c.loop-entry.invariant.each;
        told = λ based. rw w.marks-is (marked_other (IsMisfit files rows) rows c.loop-entry.entry-index r c.loop-entry.marks.items at (λ h. false≢true (sym w.if-is_misfit.false ∙ (c.is_misfit.ensures based).1 h)) (c.loop-entry.invariant.told based));
      }
    ]

pub returns : goal.returns
returns c = λ based.
    let files = files_in c.args.self.now.rows.now in
    let rows : List Row = rows_in c.args.self.now.rows.now in
    let past : length rows ≤ c.loop-entry.entry-index = omega (arith, rows_count row _ rows c.entries-entries.ensures, c.loop-entry-test.false) in
    marked_all (IsMisfit files rows) rows c.loop-entry.entry-index c.loop-entry.marks.items past (c.loop-entry.invariant.told based)
