use Rattle.std.proofs.Common.{◌≡◌, sym, ◌∙◌, arith, List, Some}
use Rattle.std.specs.List.{slice_get}
use Rattle.yv_link_scopes.specs.Rows.{Row, row}
use Rattle.yv_link_scopes.specs.Views.{rows_in}
use Rattle.yv_link_identities.proofs.Numbering.{numbered_identity, numbered_other, numbered_all, row_read, rows_count}
use Rattle.yv_link_identities.proofs.numbers.Numbers.read.Goals as goal
use Rattle.yv_link_identities.proofs.numbers.Numbers.read.Goals.{then-is_identity+in_ok-push+in_ok-push-2, else-is_identity+in_ok-push-3}

pub loop-entry-preserved : goal.loop-entry-preserved
loop-entry-preserved c =
    let rows : List Row = rows_in c.args.rows.now in
    let at : slice_get rows c.loop-entry.entry-index ≡ Some (row c.entry-item.result) = row_read row _ rows _ _ c.entries-entry-items.ensures c.loop-entry-test.true c.entry-item.is in
    elim c.if-is_identity.branch [
      | then-is_identity+in_ok-push+in_ok-push-2 w ↦ rw (w.identities-is, w.nodes-is) (numbered_identity rows _ _ _ _ _ _ _ _ c.loop-entry.invariant at (sym c.is_identity.ensures ∙ w.if-is_identity.true) (omega (arith, w.len.ensures)) w.reference.ensures w.in_ok-push.ensures.items w.in_ok-push-2.ensures.items)
      | else-is_identity+in_ok-push-3 w ↦ rw (w.identities-is, w.nodes-is) (numbered_other rows _ _ _ _ _ c.loop-entry.invariant at (sym c.is_identity.ensures ∙ w.if-is_identity.false) w.in_ok-push-3.ensures.items)
    ]

pub returns : goal.returns
returns c =
    numbered_all (rows_in c.args.rows.now) _ _ (omega (arith, rows_count row _ (rows_in c.args.rows.now) c.entries-entry-items.ensures, c.loop-entry-test.false, c.loop-entry.auto.entry-index-end)) c.loop-entry.invariant
