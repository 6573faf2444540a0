use Rattle.std.proofs.Common.{◌≡◌, ℕ, List, Some, length, get_or, sym, subst, arith}
use Rattle.std.specs.List.{slice_get}
use Rattle.std.proofs.lemmas.Option.{slice_get-get_or}
use Rattle.yv_text_statement.specs.Order.{Among, IsLeast}
use Rattle.yv_text_statement.specs.declared.refusal.Code.TheVariants as code
use Rattle.yv_text_statement.specs.declared.refusal.Refusal.{Refusal}
use Rattle.yv_text_statement.proofs.Least.{least_more}
use Rattle.yv_link_scopes.specs.Rows.{Row}
use Rattle.yv_link_scopes.specs.Views.{rows_in}
use Rattle.yv_expand_augments.specs.Refusals.{HasNoTarget, RefusesIf}
use Rattle.yv_expand_augments.proofs.augmentation.AugmentedItems.first_without_target.Goals as goal

pub loop-place-preserved : goal.loop-place-preserved
loop-place-preserved c = λ w items st are. (
    let rows : List Row = rows_in c.args.rows.now in
    let augments : List ℕ = c.args.augments.now in
    let place : ℕ = c.loop-place.place in
    let a : ℕ = get_or augments place 0 in
    let at : slice_get augments place ≡ Some a = slice_get-get_or augments place 0 c.loop-place-test.true in
    let P : ℕ → ℕ → Refusal → Type 0 = λ n k. RefusesIf rows code.AugmentTarget (HasNoTarget w items st n) k in
    least_more augments P place a c.loop-place.least c.without_target.result c.lesser-least.result at c.lesser-least.ensures
    (c.loop-place.invariant w items st are) (c.without_target.ensures w items st are))

pub returns : goal.returns
returns c = λ w items st are same these. (
    let rows : List Row = rows_in c.args.rows.now in
    let augments : List ℕ = c.args.augments.now in
    let least = c.loop-place.least in
    let P : List Row → ℕ → ℕ → Refusal → Type 0 = λ rs n k. RefusesIf rs code.AugmentTarget (HasNoTarget w items st n) k in
    let all : c.loop-place.place ≡ length augments = omega (arith, c.loop-place-test.false, c.loop-place.auto.place-end) in
    let whole = subst (λ (n : ℕ). IsLeast (Among augments (P rows) n) least) all (c.loop-place.invariant w items st are) in
    let told = subst (λ (rs : List Row). IsLeast (Among augments (P rs) (length augments)) least) (sym same) whole in
    subst (λ (xs : List ℕ). IsLeast (Among xs (P w.rows) (length xs)) least) (sym these) told)
