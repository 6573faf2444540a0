use Rattle.std.proofs.Common.{Bool, sym, ◌∙◌, ap, subst}
use Rattle.std.specs.List.{slice_get}
use Rattle.yv_text_statement.specs.Order.{IsLeast}
use Rattle.yv_text_statement.specs.declared.refusal.Code.TheVariants as code
use Rattle.yv_link_scopes.specs.Views.{rows_in}
use Rattle.yv_expand_augments.specs.Refusals.{HasNoTarget, RefusesIf}
use Rattle.yv_expand_augments.specs.InnerRefusals.{is_absent, refusal_of_row}
use Rattle.yv_expand_augments.proofs.StatementRefusals.{absent, least_at}
use Rattle.yv_expand_augments.proofs.augmentation.AugmentedItems.without_target.Goals as goal

pub returns : goal.returns
returns c = λ w items st are. (
    let rows = rows_in c.args.rows.now in
    let P : Type 0 = HasNoTarget w items st c.args.place in
    let told = c.target.ensures w items st are in
    let is = c.refused_at.ensures ∙ ap (λ (b : Bool). refusal_of_row code.AugmentTarget b (slice_get rows c.args.augment)) c.is_absent-bad.ensures in
    subst (IsLeast (RefusesIf rows code.AugmentTarget P c.args.augment)) (sym is)
    (least_at rows code.AugmentTarget P (is_absent c.target.result) c.args.augment (λ h. sym told ∙ absent c.target.result h) (λ p. ap is_absent (told ∙ p))))
