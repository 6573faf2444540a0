use Rattle.std.proofs.Common.{◌≡◌, ◌++◌, drop}
use Rattle.yv_link_scopes.specs.Views.{rows_in}
use Rattle.yv_link_features.specs.InnerGraph.{meant_from}
use Rattle.yv_link_features.specs.InnerNames.{means_in}
use Rattle.yv_link_features.proofs.names.FeatureNames.steps.Given as goal

abbrev pub invariant-loop-number : goal.invariant-loop-number
invariant-loop-number l =
    l.features.items ++ meant_from (means_in l.self) (rows_in l.self.rows.now) (drop l.number-index l.conditions)
    ≡ meant_from (means_in l.self) (rows_in l.self.rows.now) l.conditions
