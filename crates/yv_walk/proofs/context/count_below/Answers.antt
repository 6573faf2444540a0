use Rattle.std.proofs.Common.{ltb, arith, rules}
use Rattle.std.proofs.lemmas.Bool.Decides.{nat_tests}
use Rattle.std.proofs.lemmas.List.Sorted.{IsPartitionedBy-ltb, IsPartitionPoint-from_clause}
use Rattle.yv_nodes.specs.declared.node.NodeId.{NodeId}
use Rattle.yv_walk.proofs.AscendingNodes.{not_decreasing}
use Rattle.yv_walk.proofs.context.count_below.Goals as goal

pub returns-clause-below : goal.returns-clause-below
returns-clause-below c =
    let xs = c.args.nodes.now in
    let point = IsPartitionPoint-from_clause (λ (n : NodeId). ltb n.0 c.args.number) _ _ c.partition_point.ensures.partitioned (IsPartitionedBy-ltb (λ (n : NodeId). n.0) xs c.args.number (not_decreasing xs c.requires)) (λ a r q k. search rules) in
    λ k d h. grind (arith, nat_tests, point.0 k d (omega arith) h)

pub returns-clause-others : goal.returns-clause-others
returns-clause-others c =
    let xs = c.args.nodes.now in
    let point = IsPartitionPoint-from_clause (λ (n : NodeId). ltb n.0 c.args.number) _ _ c.partition_point.ensures.partitioned (IsPartitionedBy-ltb (λ (n : NodeId). n.0) xs c.args.number (not_decreasing xs c.requires)) (λ a r q k. search rules) in
    λ k d h b. grind (arith, nat_tests, point.1 k d h b)
