use Rattle.std.proofs.Common.{◌≡◌, true, sym, ◌∙◌, subst}
use Rattle.yv_text_statement.specs.Order.{IsLeast, Stands, refusal_at}
use Rattle.yv_text_statement.specs.declared.refusal.Code.TheVariants as code
use Rattle.yv_link_scopes.specs.Views.{rows_in}
use Rattle.yv_link_scopes.specs.Rows.{row}
use Rattle.yv_link_features.specs.Depends.{LeadsTo}
use Rattle.yv_link_features.specs.Refusals.{has_unknown}
use Rattle.yv_link_features.specs.InnerNames.{means_in}
use Rattle.yv_link_features.proofs.Least.{least_lesser, least_refused, only_second}
use Rattle.yv_link_features.proofs.names.FeatureNames.refusal.Goals as goal

pub returns-then-not-has_unknown : goal.returns-then-not-has_unknown
returns-then-not-has_unknown c = λ number cycle.
    let means = means_in c.args.self.now in
    let r = row c.args.entry.now in
    let P = has_unknown means r ≡ true in
    let Q = LeadsTo means (rows_in c.args.self.now.rows.now) number number in
    only_second P c.has_unknown-has_unknown.result (refusal_at code.UnknownFeature r.file r.head) (Stands Q (refusal_at code.FeatureCycle r.file r.head)) c.refusal_if-cycle.result (λ p. c.has_unknown-has_unknown.ensures ∙ p) c.if-not-has_unknown.true
    (subst (IsLeast (Stands Q (refusal_at code.FeatureCycle r.file r.head))) (sym c.refusal_if-cycle.ensures) (least_refused Q c.args.is_cyclic _ cycle.0 cycle.1))

pub returns : goal.returns
returns c = λ number cycle.
    let means = means_in c.args.self.now in
    let r = row c.args.entry.now in
    let P = has_unknown means r ≡ true in
    let Q = LeadsTo means (rows_in c.args.self.now.rows.now) number number in
    let told = c.has_unknown-has_unknown.ensures in
    least_lesser (Stands P (refusal_at code.UnknownFeature r.file r.head)) (Stands Q (refusal_at code.FeatureCycle r.file r.head)) c.refusal_if-unknown.result c.refusal_if-cycle.result _ c.lesser.ensures
    (subst (IsLeast (Stands P (refusal_at code.UnknownFeature r.file r.head))) (sym c.refusal_if-unknown.ensures) (least_refused P c.has_unknown-has_unknown.result _ (λ e. sym told ∙ e) (λ p. told ∙ p)))
    (subst (IsLeast (Stands Q (refusal_at code.FeatureCycle r.file r.head))) (sym c.refusal_if-cycle.ensures) (least_refused Q c.args.is_cyclic _ cycle.0 cycle.1))
