use Rattle.std.proofs.Common.{length, ap, arith}
use Rattle.std.proofs.lemmas.Option.{slice_get-get_or}
use Rattle.yv_link_scopes.specs.Views.{rows_in}
use Rattle.yv_base_graph.specs.Marks.{is_marked}
use Rattle.yv_expand_uses.proofs.ItemMarks.{asking_all, asking_step}
use Rattle.yv_expand_uses.proofs.if_features.items_on.Goals as goal

pub loop-number-init : goal.loop-number-init
loop-number-init c = record { each = ap length c.in_ok-marks.ensures.items; told = λ k lt x at. absurd (omega (arith, lt)) }

pub loop-number-preserved : goal.loop-number-preserved
loop-number-preserved c =
    asking_step (rows_in c.args.rows.now) c.args.spots.now c.args.items.now (is_marked c.args.statements.now) (is_marked c.args.own.now) c.requires c.loop-number.number _ c.item_on-mark.result
    c.is_marked.result c.loop-number.marks.items c.deref.result.now c.push.new.self.items (slice_get-get_or c.args.items.now c.loop-number.number _ c.loop-number-test.true)
    c.is_marked.ensures c.deref.ensures.value c.item_on-mark.ensures c.in_ok-push.ensures.items c.loop-number.invariant

pub returns : goal.returns
returns c =
    asking_all (rows_in c.args.rows.now) c.args.spots.now c.args.items.now (is_marked c.args.statements.now) (is_marked c.args.own.now) c.loop-number.number c.loop-number.marks.items
    (omega (arith, c.loop-number-test.false, c.loop-number.auto.number-end)) c.loop-number.invariant
