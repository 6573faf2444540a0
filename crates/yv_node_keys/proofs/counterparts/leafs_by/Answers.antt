use Rattle.std.proofs.Common.{sym, ◌∙◌}
use Rattle.std.proofs.lemmas.Option.{slice_get-get_or}
use Rattle.yv_node_keys.specs.InnerCounterparts.{leaf_counterpart}
use Rattle.yv_node_keys.proofs.Listing.{values_more}
use Rattle.yv_node_keys.proofs.counterparts.leafs_by.Goals as goal

pub loop-leaf-preserved : goal.loop-leaf-preserved
loop-leaf-preserved c = λ ones others told.
    let i = c.loop-leaf.leaf-index in
    values_more (leaf_counterpart c.args.nodes.now.rows ones others) c.args.known.now i _ c.in-Some.leaf c.loop-leaf.leafs.items c.push.new.self.items
    (slice_get-get_or c.args.known.now i _ c.loop-leaf-test.true) (sym c.in-Some.is ∙ c.leaf_by.ensures ones others told) (c.in_ok-push-in-Some.ensures.items) (c.loop-leaf.invariant ones others told)
