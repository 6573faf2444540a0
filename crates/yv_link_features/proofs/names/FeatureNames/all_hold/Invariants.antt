use Rattle.std.proofs.Common.{take}
use Rattle.yv_link_scopes.specs.Views.{rows_in}
use Rattle.yv_link_features.specs.Features.{from_marks}
use Rattle.yv_link_features.specs.InnerGraph.{AllTrue}
use Rattle.yv_link_features.specs.InnerNames.{means_in}
use Rattle.yv_link_features.proofs.names.FeatureNames.all_hold.Given as goal

abbrev pub invariant-loop-number : goal.invariant-loop-number
invariant-loop-number l = AllTrue (means_in l.self) (rows_in l.self.rows.now) (from_marks l.on) (take l.number-index l.conditions)
