use Rattle.std.proofs.Common.{◌≡◌, ◌∙◌, ℕ, List, Option, None, sym, ap, subst}
use Rattle.std.specs.List.{slice_get}
use Rattle.yv_text_statement.specs.Order.{IsLeast}
use Rattle.yv_text_statement.specs.declared.refusal.Code.TheVariants as code
use Rattle.yv_link_scopes.specs.Views.{rows_in}
use Rattle.yv_expand_augments.specs.Refusals.{RefusesIf}
use Rattle.yv_expand_augments.specs.InnerRefusals.{is_absent, refusal_of_row}
use Rattle.yv_expand_augments.specs.InnerSchedule.{added_to}
use Rattle.yv_expand_augments.proofs.StatementRefusals.{absent, least_at}
use Rattle.yv_expand_augments.proofs.augmentation.refusal_of_target.Goals as goal

pub returns : goal.returns
returns c = λ labels st is. (
    let rows = rows_in c.args.plan.now.rows.now in
    let it = c.args.it.now in
    let lead : List ℕ → Option ℕ = added_to labels st c.args.limit c.args.group in
    let P : Type 0 = lead it.path.items ≡ None in
    let told : c.reach.result ≡ lead it.path.items = c.reach.ensures labels st is ∙ ap lead c.deref.ensures.value in
    let same = c.refused_at.ensures ∙ ap (λ b. refusal_of_row code.AugmentTarget b (slice_get rows it.augment)) c.is_absent-bad.ensures in
    subst (IsLeast (RefusesIf rows code.AugmentTarget P it.augment)) (sym same)
    (least_at rows code.AugmentTarget P (is_absent c.reach.result) it.augment (λ h. sym told ∙ absent c.reach.result h) (λ p. ap is_absent (told ∙ p))))
