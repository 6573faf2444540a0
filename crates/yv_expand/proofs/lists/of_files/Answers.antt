use Rattle.std.proofs.Common.{refl, ◌≡◌, ◌<◌, ◌==◌, ◌&&◌, not, ◌∙◌, ap, arith, List, Some, length}
use Rattle.std.specs.List.{slice_get}
use Rattle.yv_link_scopes.specs.Files.{brief, brief_of, module_file_at}
use Rattle.yv_link_scopes.specs.Rows.{Row, row}
use Rattle.yv_link_scopes.specs.Views.{lent_in, files_in, rows_in}
use Rattle.yv_expand.specs.InnerItems.{is_wanted, top_place}
use Rattle.yv_expand.proofs.Words.{row_read, rows_count}
use Rattle.yv_expand.proofs.StatementPlaces.{place_is, placing_all, placing_none, placing_other, placing_place}
use Rattle.yv_expand.proofs.lists.of_files.Goals as goal
use Rattle.yv_expand.proofs.lists.of_files.Goals.{in-Some+in_ok-push, in_default}

pub loop-number-init : goal.loop-number-init
loop-number-init c = placing_none (top_place (is_wanted c.args.wanted) (files_in c.args.rows.now)) (rows_in c.args.rows.now) _ _ (c.in_ok-lists.ensures.0 ∙ rows_count brief _ (files_in c.args.rows.now) c.files.ensures.each) c.in_ok-lists.ensures.1

pub index_mut-requires : goal.index_mut-requires
index_mut-requires c =
    let rows : List Row = rows_in c.args.rows.now in
    let r : Row = row c.entry-item.result in
    let at : slice_get rows c.loop-number.number ≡ Some r = row_read row _ rows _ _ c.entries-entry-items.ensures c.loop-number-test.true c.entry-item.is in
    let file : c.in-Some.place ≡ r.file = place_is (is_wanted c.args.wanted r && ((r.scope == module_file_at (files_in c.args.rows.now) r.file) && not (r.scope == c.loop-number.number))) r.file c.in-Some.place c.in-Some.ensures in
    omega (arith, file, c.roots_come_first.ensures.files (lent_in c.args.rows.now) c.loop-number.number r at, rows_count brief_of (lent_in c.args.rows.now) (files_in c.args.rows.now) refl, c.loop-number.invariant.each)

pub loop-number-preserved : goal.loop-number-preserved
loop-number-preserved c =
    let rows : List Row = rows_in c.args.rows.now in
    let r : Row = row c.entry-item.result in
    let at : slice_get rows c.loop-number.number ≡ Some r = row_read row _ rows _ _ c.entries-entry-items.ensures c.loop-number-test.true c.entry-item.is in
    elim c.match-top_place.branch [
      | in-Some+in_ok-push w ↦
          let within : w.in-Some.place < length c.loop-number.lists.items =
          (let file : w.in-Some.place ≡ r.file = place_is (is_wanted c.args.wanted r && ((r.scope == module_file_at (files_in c.args.rows.now) r.file) && not (r.scope == c.loop-number.number))) r.file w.in-Some.place w.in-Some.ensures in
          omega (arith, file, c.roots_come_first.ensures.files (lent_in c.args.rows.now) c.loop-number.number r at, rows_count brief_of (lent_in c.args.rows.now) (files_in c.args.rows.now) refl, c.loop-number.invariant.each)) in
          placing_place (top_place (is_wanted c.args.wanted) (files_in c.args.rows.now)) rows _ c.loop-number.number w.in-Some.place c.loop-number.lists.items _ r w.index_mut.result.now w.push.new.self c.top_place.result c.loop-number.invariant at c.top_place.ensures w.in-Some.is within w.index_mut.ensures.value w.in_ok-push.ensures.items (ap (λ v. v.items) w.lists-is)
      | in_default w ↦ rw w.lists-is (placing_other (top_place (is_wanted c.args.wanted) (files_in c.args.rows.now)) rows _ c.loop-number.number _ r c.top_place.result c.loop-number.invariant at c.top_place.ensures w.in_default.is)
    ]

pub returns : goal.returns
returns c =
    placing_all (top_place (is_wanted c.args.wanted) (files_in c.args.rows.now)) (rows_in c.args.rows.now) _ c.loop-number.number _ (omega (arith, rows_count row _ (rows_in c.args.rows.now) c.entries-entry-items.ensures, c.loop-number-test.false)) c.loop-number.invariant
