use Rattle.std.proofs.Common.{Some, map, ap, ◌∙◌, Vec, Global}
use Rattle.yv_nodes.specs.declared.node.NodeId.{NodeId}
use Rattle.yv_node_keys.proofs.Spots.{slice_within}
use Rattle.yv_node_keys.proofs.targets.LeafTargets.uniques.Goals as goal

pub returns : goal.returns
returns c = λ rows are r at.
    let n = c.args.list.0 in
    ap (map (λ (ns : Vec NodeId Global). map (λ (m : NodeId). Some m) ns.items)) c.kept_uniques.ensures ∙ (are.all.lists.before n (slice_within rows n r at) r at).uniques
