use Rattle.std.proofs.Common.{◌≡◌, ◌<◌, ◌==◌, ◌&&◌, not, ◌∙◌, ap, arith, List, Some, length}
use Rattle.std.specs.List.{slice_get}
use Rattle.yv_link_scopes.specs.Rows.{Row, row}
use Rattle.yv_link_scopes.specs.Views.{lent_in, rows_in}
use Rattle.yv_expand.specs.InnerItems.{block_place, is_wanted}
use Rattle.yv_expand.proofs.Words.{row_read, rows_count}
use Rattle.yv_expand.proofs.StatementPlaces.{place_is, placing_all, placing_none, placing_other, placing_place}
use Rattle.yv_expand.proofs.lists.of_blocks.Goals as goal
use Rattle.yv_expand.proofs.lists.of_blocks.Goals.{in-Some+in_ok-push, in_default}

pub loop-number-init : goal.loop-number-init
loop-number-init c = placing_none (block_place (is_wanted c.args.wanted)) (rows_in c.args.rows.now) _ _ (c.in_ok-lists.ensures.0 ∙ rows_count row _ (rows_in c.args.rows.now) c.entries-entries.ensures) c.in_ok-lists.ensures.1

pub index_mut-requires : goal.index_mut-requires
index_mut-requires c =
    let rows : List Row = rows_in c.args.rows.now in
    let r : Row = row c.index-entries-number.result in
    let at : slice_get rows c.loop-number.number ≡ Some r = row_read row _ rows _ _ c.entries-entries.ensures c.loop-number-test.true c.index-entries-number.is in
    let scope : c.in-Some.place ≡ r.scope = place_is (is_wanted c.args.wanted r && not (r.scope == c.loop-number.number)) r.scope c.in-Some.place c.in-Some.ensures in
    omega (arith, scope, c.blocks_are_nested.ensures (lent_in c.args.rows.now) c.loop-number.number r at, rows_count row _ rows c.entries-entries.ensures, c.loop-number-test.true, c.loop-number.invariant.each)

pub loop-number-preserved : goal.loop-number-preserved
loop-number-preserved c =
    let rows : List Row = rows_in c.args.rows.now in
    let r : Row = row c.index-entries-number.result in
    let at : slice_get rows c.loop-number.number ≡ Some r = row_read row _ rows _ _ c.entries-entries.ensures c.loop-number-test.true c.index-entries-number.is in
    elim c.match-block_place.branch [
      | in-Some+in_ok-push w ↦
          let within : w.in-Some.place < length c.loop-number.lists.items =
          (let scope : w.in-Some.place ≡ r.scope = place_is (is_wanted c.args.wanted r && not (r.scope == c.loop-number.number)) r.scope w.in-Some.place w.in-Some.ensures in
          omega (arith, scope, c.blocks_are_nested.ensures (lent_in c.args.rows.now) c.loop-number.number r at, rows_count row _ rows c.entries-entries.ensures, c.loop-number-test.true, c.loop-number.invariant.each)) in
          placing_place (block_place (is_wanted c.args.wanted)) rows _ c.loop-number.number w.in-Some.place c.loop-number.lists.items _ r w.index_mut.result.now w.push.new.self c.block_place.result c.loop-number.invariant at c.block_place.ensures w.in-Some.is within w.index_mut.ensures.value w.in_ok-push.ensures.items (ap (λ v. v.items) w.lists-is)
      | in_default w ↦ rw w.lists-is (placing_other (block_place (is_wanted c.args.wanted)) rows _ c.loop-number.number _ r c.block_place.result c.loop-number.invariant at c.block_place.ensures w.in_default.is)
    ]

pub returns : goal.returns
returns c =
    placing_all (block_place (is_wanted c.args.wanted)) (rows_in c.args.rows.now) _ c.loop-number.number _ (omega (arith, rows_count row _ (rows_in c.args.rows.now) c.entries-entries.ensures, c.loop-number-test.false)) c.loop-number.invariant
