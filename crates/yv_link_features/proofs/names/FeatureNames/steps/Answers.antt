use Rattle.std.proofs.Common.{◌++◌, append-nil, sym, ◌∙◌, ap}
use Rattle.yv_text_if_feature.specs.Tokens.{tokens}
use Rattle.yv_link_scopes.specs.Views.{rows_in}
use Rattle.yv_link_features.specs.InnerGraph.{meant_in}
use Rattle.yv_link_features.specs.InnerNames.{means_in, meant_among}
use Rattle.yv_link_features.proofs.Steps.{steps_more}
use Rattle.yv_link_features.proofs.names.FeatureNames.steps.Goals as goal
use Rattle.yv_link_features.proofs.names.FeatureNames.steps.Goals.{in-Some+in_ok-add_meanings, in_default}

pub loop-number-preserved : goal.loop-number-preserved
loop-number-preserved c =
    let means = means_in c.args.self.now in
    let old = c.loop-number.features.items in
    steps_more means (rows_in c.args.self.now.rows.now) c.args.conditions.now c.loop-number.number-index _ old c.match-entry.features.items c.loop-number-test.true
    (elim c.match-entry.branch [
      | in-Some+in_ok-add_meanings w ↦
          ap (λ v. v.items) w.features-is
          ∙ w.in_ok-add_meanings.ensures.adds
          ∙ ap (λ t. old ++ meant_among means w.in-Some.entry.now.file (tokens t)) w.name_of-text.ensures
          ∙ ap (λ o. old ++ meant_in means o) w.in-Some.ensures
      | in_default w ↦ ap (λ v. v.items) w.features-is ∙ sym (append-nil old) ∙ ap (λ o. old ++ meant_in means o) w.in_default.ensures
    ])
    c.loop-number.invariant
