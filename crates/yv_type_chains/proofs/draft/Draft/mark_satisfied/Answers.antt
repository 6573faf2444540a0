use Rattle.std.proofs.Common.{◌≡◌, ◌<◌, ◌≤◌, List, Some, length, sym, ◌∙◌, ap, arith}
use Rattle.std.specs.List.{slice_get}
use Rattle.std.proofs.lemmas.Bool.{false≢true}
use Rattle.std.proofs.lemmas.Option.{slice_get_within}
use Rattle.yv_link_scopes.specs.Rows.{Row, row}
use Rattle.yv_link_scopes.specs.Views.{lent_in, rows_in}
use Rattle.yv_type_chains.specs.InnerMarks.{Meets}
use Rattle.yv_type_chains.proofs.Words.{row_read, rows_count}
use Rattle.yv_type_chains.proofs.BlockMarks.{marked_all, marked_more, marked_other}
use Rattle.yv_type_chains.proofs.draft.Draft.mark_satisfied.Goals as goal
use Rattle.yv_type_chains.proofs.draft.Draft.mark_satisfied.Goals.{then-meets, else-meets}

pub loop-entry-preserved : goal.loop-entry-preserved
loop-entry-preserved c =
    let rows : List Row = rows_in c.args.self.now.rows.now in
    let r : Row = row c.entry-item.result in
    let at : slice_get rows c.loop-entry.entry-index ≡ Some r = row_read row _ rows c.loop-entry.entry-index c.entry-item.result c.entries-entries.ensures c.loop-entry-test.true c.entry-item.is in
    let le = c.blocks_are_nested.ensures (lent_in c.args.self.now.rows.now) c.loop-entry.entry-index r at in
    let inside = slice_get_within rows c.loop-entry.entry-index r at in
    let within : r.scope < length c.loop-entry.marks.items = omega (arith, le, inside, c.loop-entry.invariant.each) in
    elim c.if-meets.branch [
      | then-meets w ↦ record {
        each = ap (λ v. length v.items) w.marks-is ∙ w.mark.ensures.each ∙ c.loop-entry.invariant.each;
        told = rw w.marks-is (marked_more (Meets rows) rows c.loop-entry.entry-index r c.loop-entry.marks.items w.mark.new.marks.items at (c.meets.ensures.0 w.if-meets.true) (w.mark.ensures.here within) w.mark.ensures.elsewhere c.loop-entry.invariant.told);
      }
      | else-meets w ↦ record {
        each = ap (λ v. length v.items) w.marks-is ∙ c.loop-entry.invariant.each;
        told = rw w.marks-is (marked_other (Meets rows) rows c.loop-entry.entry-index r c.loop-entry.marks.items at (λ h. false≢true (sym w.if-meets.false ∙ c.meets.ensures.1 h)) c.loop-entry.invariant.told);
      }
    ]

pub returns : goal.returns
returns c =
    let rows : List Row = rows_in c.args.self.now.rows.now in
    let past : length rows ≤ c.loop-entry.entry-index = omega (arith, rows_count row _ rows c.entries-entries.ensures, c.loop-entry-test.false) in
    marked_all (Meets rows) rows c.loop-entry.entry-index c.loop-entry.marks.items past c.loop-entry.invariant.told
