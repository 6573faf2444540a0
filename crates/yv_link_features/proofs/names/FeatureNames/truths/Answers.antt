use Rattle.std.proofs.Common.{◌≡◌, ◌↔◌, true, List, Bool, Some, IsTrue, get_or, subst, arith}
use Rattle.std.specs.List.{slice_get}
use Rattle.yv_text_statement.specs.Selection.{selected_of}
use Rattle.yv_link_scopes.specs.Views.{files_in, rows_in}
use Rattle.yv_link_scopes.specs.Rows.{Row}
use Rattle.yv_link_features.specs.Meaning.{is_feature}
use Rattle.yv_link_features.specs.Features.{from_marks}
use Rattle.yv_link_features.specs.On.{AllHold, has_support}
use Rattle.yv_link_features.specs.InnerNames.{means_in}
use Rattle.yv_link_features.proofs.FeatureOrder.{marked_more, marked_end}
use Rattle.yv_link_features.proofs.names.FeatureNames.truths.Goals as goal

pub loop-number-preserved : goal.loop-number-preserved
loop-number-preserved c =
    let means = means_in c.args.self.now in
    let files = files_in c.args.self.now.rows.now in
    let rows = rows_in c.args.self.now.rows.now in
    let choice = selected_of c.args.selection.now in
    let number = get_or c.args.order.now c.loop-number.number-index 0 in
    marked_more means files rows choice c.args.order.now c.requires.order c.names_stand_in_order.ensures c.loop-number.number-index c.loop-number.on.items c.is_on-holds.result c.loop-number-test.true
    (subst (λ (on : List Bool). (r : Row) → slice_get rows number ≡ Some r → is_feature r ≡ true → IsTrue c.is_on-holds.result ↔ ((has_support files choice r ≡ true) × AllHold means rows (from_marks on) number)) c.deref.ensures.value c.is_on-holds.ensures)
    c.loop-number.invariant

pub returns : goal.returns
returns c =
    marked_end (means_in c.args.self.now) (files_in c.args.self.now.rows.now) (rows_in c.args.self.now.rows.now) (selected_of c.args.selection.now) c.args.order.now c.requires.order c.loop-number.number-index c.loop-number.on.items (omega (arith, c.loop-number-test.false)) c.loop-number.invariant
