use Rattle.std.proofs.Common.{◌≡◌, ◌<◌, ◌+◌, ℕ, List, Some, Vec, Global, length, set, get_or, length-set, arith, refl, ◌∙◌, ap}
use Rattle.std.specs.List.{slice_get}
use Rattle.std.specs.Option.{unwrap_or}
use Rattle.std.proofs.lemmas.Option.{slice_get_read}
use Rattle.yv_link_scopes.specs.Rows.{Row, row}
use Rattle.yv_link_scopes.specs.Views.{rows_in}
use Rattle.yv_expand_statements.specs.Units.{units_of, saturate}
use Rattle.yv_expand.specs.InnerLists.{sum_at}
use Rattle.yv_expand.proofs.UnitWords.{row_read, rows_count}
use Rattle.yv_expand.proofs.SettledValues.{first_more, first_all}
use Rattle.yv_expand.proofs.values.values.Goals as goal

pub loop-number-preserved : goal.loop-number-preserved
loop-number-preserved c =
    let rows : List Row = rows_in c.args.rows.now in
    let number : ℕ = get_or c.args.order.now c.loop-number.number-index 0 in
    let old : List ℕ = c.loop-number.values.items in
    let r : Row = row c.index-entries-number.result in
    let v : Vec ℕ Global = c.index-steps-number.result in
    let stands : number < length c.args.steps.now = c.requires.within c.loop-number.number-index 0 c.loop-number-test.true in
    let at : slice_get rows number ≡ Some r = row_read row _ rows number c.index-entries-number.result c.entries-entries.ensures (omega (arith, stands, c.requires.each, rows_count row _ rows c.entries-entries.ensures)) c.index-entries-number.is in
    let step : slice_get c.args.steps.now number ≡ Some v = slice_get_read c.args.steps.now (length c.args.steps.now) number v refl stands c.index-steps-number.is in
    let inner : c.sum-inner.result ≡ saturate (sum_at old v.items) = c.sum-inner.ensures ∙ ap (λ l. saturate (sum_at l c.deref-in-loop-number.result.now)) c.deref.ensures.value ∙ ap (λ l. saturate (sum_at old l)) c.deref-in-loop-number.ensures.value in
    let own : c.unwrap_or-own.result ≡ unwrap_or (units_of r.head.keyword) 0 = c.unwrap_or-own.ensures ∙ ap (λ o. unwrap_or o 0) c.own_units.ensures in
    let value : c.saturating_add.result ≡ saturate (saturate (sum_at old v.items) + unwrap_or (units_of r.head.keyword) 0) = c.saturating_add.ensures ∙ ap (λ x. saturate (x + c.unwrap_or-own.result)) inner ∙ ap (λ x. saturate (saturate (sum_at old v.items) + x)) own in
    record {
      each = (let l : length (set old number c.saturating_add.result) ≡ length old = length-set old number c.saturating_add.result in l) ∙ c.loop-number.invariant.each;
      done = λ files steps o. first_more files rows c.args.steps.now c.args.order.now c.loop-number.number-index number c.saturating_add.result old (set old number c.saturating_add.result) r v steps o (c.loop-number.invariant.done files steps o) c.loop-number-test.true refl at step value refl c.loop-number.invariant.each;
    }

pub returns : goal.returns
returns c = λ files steps o. first_all files _ c.args.steps.now c.args.order.now c.loop-number.number-index _ steps o (c.loop-number.invariant.done files steps o) c.loop-number-test.false
