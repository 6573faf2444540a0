use Rattle.std.proofs.lemmas.Option.{slice_get-get_or}
use Rattle.yv_expand_augments.specs.Remains.{is_left}
use Rattle.yv_expand_augments.proofs.TreeRemains.{scan_all, scan_step}
use Rattle.yv_expand_augments.proofs.remains.scan.Goals as goal

pub loop-row-preserved : goal.loop-row-preserved
loop-row-preserved c =
    scan_step (is_left c.args.spots.now c.args.marks.now) c.args.tree.now c.loop-row.row-index _ c.loop-row.cut _ c.is_left.result _ c.loop-row.rows.items c.add.new.rows.items
    (slice_get-get_or c.args.tree.now c.loop-row.row-index _ c.loop-row-test.true) c.is_left.ensures c.step-next.ensures.cuts c.step-next.ensures.is_left
    c.in_ok-add.ensures c.loop-row.invariant

pub returns : goal.returns
returns c = scan_all (is_left c.args.spots.now c.args.marks.now) c.args.tree.now c.loop-row.row-index c.loop-row.cut c.loop-row.rows.items c.loop-row-test.false c.loop-row.invariant
