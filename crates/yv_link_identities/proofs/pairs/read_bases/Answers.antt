use Rattle.std.proofs.Common.{◌≡◌, ◌<◌, sym, ◌∙◌, ap, arith, List, Some, length}
use Rattle.std.specs.List.{slice_get}
use Rattle.yv_link_scopes.specs.Files.{Briefs}
use Rattle.yv_link_scopes.specs.Rows.{Row, row}
use Rattle.yv_link_scopes.specs.Views.{files_in, rows_in}
use Rattle.yv_link_identities.specs.InnerPairs.{pair_of}
use Rattle.yv_link_identities.proofs.Numbering.{row_read, rows_count, numbers_count}
use Rattle.yv_link_identities.proofs.BaseGraph.{pairing_none, pairing_other, pairing_pair, pairing_all, pair_within}
use Rattle.yv_link_identities.proofs.pairs.read_bases.Goals as goal
use Rattle.yv_link_identities.proofs.pairs.read_bases.Goals.{in-Some+in_ok-push, in_default}

pub loop-entry-init : goal.loop-entry-init
loop-entry-init c =
    pairing_none _ _ _ (c.in_ok-bases.ensures.0 ∙ omega (arith, c.len.ensures, numbers_count _ _ c.args.draft.now.numbered)) c.in_ok-bases.ensures.1

pub index_mut-requires : goal.index_mut-requires
index_mut-requires c =
    let files : Briefs = files_in c.args.draft.now.rows.now in
    let rows : List Row = rows_in c.args.draft.now.rows.now in
    let w = pair_within files rows (row c.entry-item.result) c.in-Some.own c.in-Some.base (sym c.in-Some.ensures) in
    omega (arith, w.0, c.loop-entry.invariant.each)

pub loop-entry-preserved : goal.loop-entry-preserved
loop-entry-preserved c =
    let files : Briefs = files_in c.args.draft.now.rows.now in
    let rows : List Row = rows_in c.args.draft.now.rows.now in
    let at : slice_get rows c.loop-entry.entry-index ≡ Some (row c.entry-item.result) = row_read row _ rows _ _ c.entries-entry-items.ensures c.loop-entry-test.true c.entry-item.is in
    elim c.match-pair.branch [
      | in-Some+in_ok-push w ↦
          let pair : pair_of files rows (row c.entry-item.result) ≡ Some (w.in-Some.own, w.in-Some.base) = sym w.in-Some.ensures in
          let inside : w.in-Some.own < length c.loop-entry.bases.items = omega (arith, (pair_within files rows (row c.entry-item.result) w.in-Some.own w.in-Some.base pair).0, c.loop-entry.invariant.each) in
          pairing_pair files rows _ w.in-Some.own w.in-Some.base _ c.loop-entry.bases.items c.match-pair.bases.items w.index_mut.result.now w.push.new.self c.loop-entry.invariant at pair inside w.index_mut.ensures.value w.in_ok-push.ensures.items (ap (λ v. v.items) w.bases-is)
      | in_default w ↦ rw w.bases-is (pairing_other files rows _ _ _ c.pair.result c.loop-entry.invariant at c.pair.ensures w.in_default.is)
    ]

pub returns : goal.returns
returns c =
    pairing_all _ (rows_in c.args.draft.now.rows.now) _ _ (omega (arith, rows_count row _ (rows_in c.args.draft.now.rows.now) c.entries-entry-items.ensures, c.loop-entry-test.false, c.loop-entry.auto.entry-index-end)) c.loop-entry.invariant
