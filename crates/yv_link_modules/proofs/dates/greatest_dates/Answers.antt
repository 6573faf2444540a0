use Rattle.std.proofs.Common.{◌≡◌, ◌<◌, List, length, sym, ◌∙◌, arith, Some}
use Rattle.std.specs.List.{slice_get}
use Rattle.std.proofs.lemmas.List.{length-map}
use Rattle.yv_link_scopes.specs.Files.{Briefs, brief_of}
use Rattle.yv_link_scopes.specs.Rows.{Row, row}
use Rattle.yv_link_scopes.specs.Views.{files_in, lent_in, rows_in}
use Rattle.yv_link_modules.proofs.Flags.{get_view}
use Rattle.yv_link_modules.proofs.Latest.{greatest_more, greatest_same}
use Rattle.yv_link_modules.proofs.dates.greatest_dates.Goals as goal
use Rattle.yv_link_modules.proofs.dates.greatest_dates.Goals.{then-is_revision, else-is_revision}

pub keep_date-requires : goal.keep_date-requires
keep_date-requires c =
    let files : Briefs = files_in c.args.rows.now in
    let rows : List Row = rows_in c.args.rows.now in
    let r : Row = row c.entry-item.result in
    let at : slice_get rows c.loop-entry.entry-index ≡ Some r = get_view row c.entries-entry-items.result.now rows c.loop-entry.entry-index c.entry-item.result c.entries-entry-items.ensures c.loop-entry-test.true c.entry-item.is in
    let file : r.file < length (lent_in c.args.rows.now) = c.roots_come_first.ensures.files (lent_in c.args.rows.now) c.loop-entry.entry-index r at in
    omega (arith, file, c.loop-entry.invariant.each, length-map (lent_in c.args.rows.now) brief_of)

pub loop-entry-preserved : goal.loop-entry-preserved
loop-entry-preserved c =
    let files : Briefs = files_in c.args.rows.now in
    let rows : List Row = rows_in c.args.rows.now in
    let r : Row = row c.entry-item.result in
    let at : slice_get rows c.loop-entry.entry-index ≡ Some r = get_view row c.entries-entry-items.result.now rows c.loop-entry.entry-index c.entry-item.result c.entries-entry-items.ensures c.loop-entry-test.true c.entry-item.is in
    elim c.if-is_revision.branch [
      | then-is_revision w ↦ rw w.dates-is (greatest_more (length files) rows c.loop-entry.entry-index r c.loop-entry.dates.items w.keep_date.new.dates.items w.name_of-date.result.now at (sym c.is_revision.ensures ∙ w.if-is_revision.true) w.name_of-date.ensures w.keep_date.ensures.each w.keep_date.ensures.keeps w.keep_date.ensures.others c.loop-entry.invariant)
      | else-is_revision w ↦ rw w.dates-is (greatest_same (length files) rows c.loop-entry.entry-index r c.loop-entry.dates.items at (sym c.is_revision.ensures ∙ w.if-is_revision.false) c.loop-entry.invariant)
    ]
