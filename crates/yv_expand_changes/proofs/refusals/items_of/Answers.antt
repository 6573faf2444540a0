use Rattle.std.proofs.Common.{arith}
use Rattle.std.proofs.lemmas.Option.{slice_get-get_or}
use Rattle.yv_expand_changes.proofs.FinalItemSet.{entered_none, entered_more, entered_all}
use Rattle.yv_expand_changes.proofs.refusals.items_of.Goals as goal

pub loop-row-init : goal.loop-row-init
loop-row-init c = entered_none c.args.tree.now c.new-items.result c.new-items.ensures.empty

pub loop-row-preserved : goal.loop-row-preserved
loop-row-preserved c =
    entered_more c.args.tree.now c.loop-row.row-index _ c.loop-row.items c.insert.new.self (slice_get-get_or c.args.tree.now c.loop-row.row-index _ c.loop-row-test.true)
    c.in_ok-insert.ensures.updates c.loop-row.invariant

pub returns : goal.returns
returns c =
    entered_all c.args.tree.now c.loop-row.row-index c.loop-row.items (omega (arith, c.loop-row-test.false, c.loop-row.auto.row-index-end)) c.loop-row.invariant
