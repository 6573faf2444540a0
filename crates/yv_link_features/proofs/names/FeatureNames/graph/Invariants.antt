use Rattle.std.proofs.Common.{◌≡◌, map, take}
use Rattle.yv_link_scopes.specs.Views.{rows_in}
use Rattle.yv_link_features.specs.InnerGraph.{steps_of}
use Rattle.yv_link_features.specs.InnerNames.{means_in}
use Rattle.yv_link_features.proofs.names.FeatureNames.graph.Given as goal

abbrev pub invariant-loop-conditions : goal.invariant-loop-conditions
invariant-loop-conditions l =
    map (λ v. v.items) l.graph.items ≡ steps_of (means_in l.self) (rows_in l.self.rows.now) (take l.conditions-index l.lists)
