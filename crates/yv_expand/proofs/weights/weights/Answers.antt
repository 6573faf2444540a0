use Rattle.std.proofs.Common.{◌≡◌, ◌∙◌, ap, arith, length, List, Some}
use Rattle.std.specs.List.{slice_get}
use Rattle.yv_link_scopes.specs.Rows.{Row, row}
use Rattle.yv_link_scopes.specs.Views.{rows_in}
use Rattle.yv_expand.proofs.UnitWords.{row_read}
use Rattle.yv_expand.proofs.UnitListing.{longer}
use Rattle.yv_expand.proofs.StatementWeights.{told_more}
use Rattle.yv_expand.proofs.weights.weights.Goals as goal

pub loop-number-preserved : goal.loop-number-preserved
loop-number-preserved c =
    let rows : List Row = rows_in c.args.rows.now in
    let r : Row = row c.entry-item.result in
    let at : slice_get rows c.loop-number.number ≡ Some r = row_read row _ rows c.loop-number.number c.entry-item.result c.entries-entry-items.ensures c.loop-number-test.true c.entry-item.is in
    record {
      each = ap length c.in_ok-push.ensures.items ∙ longer c.loop-number.weights.items _ ∙ omega (arith, c.loop-number.invariant.each);
      told = λ files settled. told_more files rows c.loop-number.number c.weight.result c.loop-number.weights.items _ c.loop-number.invariant.each c.in_ok-push.ensures.items (c.weight.ensures files rows at (settled c.loop-number.number r at)) (c.loop-number.invariant.told files settled);
    }
