use Rattle.std.proofs.Common.{◌≡◌, List, Some, map, take}
use Rattle.std.specs.BTreeMap.{get}
use Rattle.std.specs.Ordering.{nat_cmp}
use Rattle.yv_nodes.specs.declared.node.NodeId.{NodeId}
use Rattle.yv_node_keys.specs.InnerCounterparts.{counterpart, leaf_counterpart}
use Rattle.yv_node_keys.proofs.counterparts.leafs_by.Given as goal

abbrev pub invariant-loop-leaf : goal.invariant-loop-leaf
invariant-loop-leaf l = (ones others : List NodeId) → ((n : NodeId) → get nat_cmp l.found n.0 ≡ counterpart n ones others)
    → map (λ n. Some n) l.leafs.items ≡ map (leaf_counterpart l.nodes.rows ones others) (take l.leaf-index l.known)
