use Rattle.std.proofs.Common.{◌≡◌, ℕ, List, Option, None, Some, ap, arith, length, refl, sym, subst, ◌∙◌}
use Rattle.std.specs.List.{slice_get}
use Rattle.std.proofs.lemmas.Option.{slice_get-get_or}
use Rattle.yv_text_statement.specs.Order.{Among, IsLeast}
use Rattle.yv_text_statement.specs.declared.refusal.Refusal.{Refusal}
use Rattle.yv_text_statement.proofs.Least.{least_more}
use Rattle.yv_link_scopes.specs.Views.{rows_in}
use Rattle.yv_expand_augments.specs.InnerSchedule.{added_to}
use Rattle.yv_expand_augments.specs.declared.schedule.AddressedAugment.{AddressedAugment}
use Rattle.yv_expand_augments.proofs.AugmentStretches.{Misses, found_told, none_told}
use Rattle.yv_expand_augments.proofs.augmentation.first_missing.Goals as goal

pub returns-then-is_some : goal.returns-then-is_some
returns-then-is_some c = λ labels st is ordered. (
    let rows = rows_in c.args.plan.now.rows.now in
    let lead : List ℕ → Option ℕ = added_to labels st c.args.end c.args.spot.now.group in
    let idle : List AddressedAugment = c.args.idle.now in
    let i : ℕ = c.loop-it.it-index in
    let x : AddressedAugment = c.it-item.result in
    let at : slice_get idle i ≡ Some x = slice_get-get_or idle i x c.loop-it-test.true ∙ ap Some (sym c.it-item.is) in
    found_told rows lead idle i x c.refusal_of_target-missing.result (sym c.is_some.ensures ∙ c.if-is_some.true) ordered at
    (c.loop-it.invariant labels st is) (c.refusal_of_target-missing.ensures labels st is))

pub loop-it-preserved : goal.loop-it-preserved
loop-it-preserved c = λ labels st is. (
    let rows = rows_in c.args.plan.now.rows.now in
    let lead : List ℕ → Option ℕ = added_to labels st c.args.end c.args.spot.now.group in
    let idle : List AddressedAugment = c.args.idle.now in
    let i : ℕ = c.loop-it.it-index in
    let x : AddressedAugment = c.it-item.result in
    let at : slice_get idle i ≡ Some x = slice_get-get_or idle i x c.loop-it-test.true ∙ ap Some (sym c.it-item.is) in
    let P : ℕ → AddressedAugment → Refusal → Type 0 = Misses rows lead idle in
    least_more idle P i x None None None at refl (c.loop-it.invariant labels st is)
    (none_told (P i x) c.refusal_of_target-missing.result (sym c.is_some.ensures ∙ c.if-is_some.false) (c.refusal_of_target-missing.ensures labels st is)))

pub returns : goal.returns
returns c = λ labels st is ordered. (
    let rows = rows_in c.args.plan.now.rows.now in
    let lead : List ℕ → Option ℕ = added_to labels st c.args.end c.args.spot.now.group in
    let idle : List AddressedAugment = c.args.idle.now in
    let all : c.loop-it.it-index ≡ length idle = omega (arith, c.loop-it-test.false, c.loop-it.auto.it-index-end) in
    subst (λ (n : ℕ). IsLeast (Among idle (Misses rows lead idle) n) None) all (c.loop-it.invariant labels st is))
