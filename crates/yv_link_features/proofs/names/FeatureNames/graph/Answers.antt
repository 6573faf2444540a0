use Rattle.std.proofs.Common.{◌∙◌, ap}
use Rattle.yv_link_scopes.specs.Views.{rows_in}
use Rattle.yv_link_features.specs.InnerGraph.{meant_from}
use Rattle.yv_link_features.specs.InnerNames.{means_in}
use Rattle.yv_link_features.proofs.Steps.{graph_more}
use Rattle.yv_link_features.proofs.names.FeatureNames.graph.Goals as goal

pub loop-conditions-preserved : goal.loop-conditions-preserved
loop-conditions-preserved c =
    let f = meant_from (means_in c.args.self.now) (rows_in c.args.self.now.rows.now) in
    graph_more (λ v. f v.items) c.args.lists.now c.loop-conditions.graph.items c.push.new.self.items c.loop-conditions.conditions-index c.conditions-item.result c.in_ok-steps.field-0 c.loop-conditions-test.true c.conditions-item.is c.in_ok-push.ensures.items (c.in_ok-steps.ensures ∙ ap f c.deref.ensures.value) c.loop-conditions.invariant
