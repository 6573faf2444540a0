use Rattle.std.proofs.Common.{Some, map, ap, ◌∙◌}
use Rattle.yv_nodes.specs.declared.node.NodeId.{NodeId}
use Rattle.yv_node_keys.proofs.Spots.{slice_within}
use Rattle.yv_node_keys.proofs.targets.LeafTargets.keys.Goals as goal

pub returns : goal.returns
returns c = λ rows are r at.
    let n = c.args.list.0 in
    ap (map (λ (m : NodeId). Some m)) c.kept_keys.ensures ∙ (are.all.lists.before n (slice_within rows n r at) r at).keys
