use Rattle.std.proofs.Common.{◌≡◌, List, ℕ, None, Some, refl, sym, ◌∙◌, subst}
use Rattle.yv_link_scopes.specs.Views.{rows_in}
use Rattle.yv_link_scopes.specs.Rows.{Row, row}
use Rattle.yv_link_features.specs.Features.{from_marks}
use Rattle.yv_link_features.specs.InnerNames.{means_in}
use Rattle.yv_link_features.specs.Value.{HasValue}
use Rattle.yv_link_features.proofs.AssignmentAgreement.{true_at}
use Rattle.yv_link_features.proofs.names.FeatureNames.holds.Goals as goal

pub returns-in-Some : goal.returns-in-Some
returns-in-Some c =
    let means = means_in c.args.self.now in
    let r : Row = row c.in-Some.entry.now in
    true_at c.a_text_spells_one_if_feature.ensures means (rows_in c.args.self.now.rows.now) (from_marks c.args.on.now) c.args.number r c.value.result (sym c.in-Some.ensures)
    (subst (λ (text : List ℕ). HasValue means (from_marks c.args.on.now) r.file text c.value.result) c.name_of.ensures c.value.ensures)

pub returns-in-None : goal.returns-in-None
returns-in-None c = (λ e. λ q at. (let wrong : None ≡ Some q = c.in-None.ensures ∙ at in absurd cc), λ t. refl)
