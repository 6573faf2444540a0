use Rattle.std.proofs.Common.{◌≡◌, Some, sym, ◌∙◌, ap, arith, map}
use Rattle.std.specs.List.{slice_get}
use Rattle.yv_link_scopes.specs.RowList.{rows_of}
use Rattle.yv_link_scopes.specs.Rows.{row}
use Rattle.yv_link.specs.LinkedFiles.{truth_in}
use Rattle.yv_type_identities.proofs.Numbers.{none_in}
use Rattle.yv_type_identities.proofs.RowLoop.{row_read, rows_count}
use Rattle.yv_type_identities.proofs.EnabledStatements.{failing_more, failing_same, failing_all}
use Rattle.yv_type_identities.proofs.if_features.off.Goals as goal
use Rattle.yv_type_identities.proofs.if_features.off.Goals.{then-is_false+in_ok-insert, else-is_false}

pub loop-entry-init : goal.loop-entry-init
loop-entry-init c files choice t number = none_in c.new-numbers.result number c.new-numbers.ensures.empty

pub loop-entry-preserved : goal.loop-entry-preserved
loop-entry-preserved c files choice t =
    let same : map row c.entries-entry-items.result.now ≡ rows_of files = c.entries-entry-items.ensures ∙ ap rows_of (c.rows.ensures files choice t) in
    let at : slice_get (rows_of files) c.loop-entry.entry-index ≡ Some (row c.entry-item.result) = row_read row c.entries-entry-items.result.now (rows_of files) c.loop-entry.entry-index c.entry-item.result same c.loop-entry-test.true c.entry-item.is in
    elim c.if-is_false.branch [
      | then-is_false+in_ok-insert w ↦ rw w.numbers-is (failing_more (truth_in c.args.linked.now) (rows_of files) c.loop-entry.entry-index (row c.entry-item.result) c.loop-entry.numbers w.insert.new.self at (sym c.is_false.ensures ∙ w.if-is_false.true) w.in_ok-insert.ensures.updates (c.loop-entry.invariant files choice t))
      | else-is_false w ↦ rw w.numbers-is (failing_same (truth_in c.args.linked.now) (rows_of files) c.loop-entry.entry-index (row c.entry-item.result) c.loop-entry.numbers at (sym c.is_false.ensures ∙ w.if-is_false.false) (c.loop-entry.invariant files choice t))
    ]

pub returns : goal.returns
returns c files choice t =
    let same : map row c.entries-entry-items.result.now ≡ rows_of files = c.entries-entry-items.ensures ∙ ap rows_of (c.rows.ensures files choice t) in
    failing_all (truth_in c.args.linked.now) (rows_of files) c.loop-entry.entry-index c.loop-entry.numbers (omega (arith, rows_count row c.entries-entry-items.result.now (rows_of files) same, c.loop-entry-test.false, c.loop-entry.auto.entry-index-end)) (c.loop-entry.invariant files choice t)
